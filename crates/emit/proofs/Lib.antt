mod Laying
mod Listing
