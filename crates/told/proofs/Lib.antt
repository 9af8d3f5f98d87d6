mod Laying
mod Numbers
mod StateLines
