-- The followers reject each wrong history of the table and accept its right twin, computed from their definitions.
-- Assumes nothing.
use mathlib.Core.Path.{◌≡◌, refl}
use mathlib.Core.Bool.{true}
use Rattle.answer.specs.Commands.{place_in, place_of}
use Rattle.answer.specs.Lines.{head_text, weight_text, line_of}
use Rattle.line.specs.Judging.{unit_in}
use Rattle.host.specs.Reads.{guessed, confirms, read_line}
use Rattle.text.specs.Field.{field_of}
use Rattle.text.specs.Reading.{is_decimal, decimals_in, value_in, is_written, read_number, read_field}
use Rattle.text.specs.Typed.{is_typed, preset_resolution, read_typed}
use Rattle.text.specs.UnitTexts.{first_marked, unit_named, unit_coded}
use Rattle.weight.specs.Places.{last_digits, digits_in, digits_of, decimal_of, number_text, width_of, fits_field}
use Rattle.weight.specs.Rounding.{half_up, round_away, steps_of, places_of, place_femtograms, step_femtograms, exact_femtograms}
use Rattle.weight.specs.Amounts.{typed_femtograms, typed_micrograms, amount_of}
use Rattle.weight.specs.Presets.{preset_steps, preset_places, preset_micrograms, preset_femtograms}
use Rattle.weight.specs.Ranges.{typed_resolution}
use Rattle.history.specs.Claim.{taken_events}
use Rattle.history.specs.EndToEnd.{pieces_after, pieces_of, pieces_hold, host_accepts}
use Rattle.history.specs.OnChange.{sends_after_line, sends_after, sends_hold, sender_holds}
use Rattle.history.specs.Rejected.{weight_rows, state_rows, wait_rows, sent_rows, sending_rows, buffer_rows, unit_rows, range_rows, rows, all_tell}
use Rattle.history.specs.Tally.{in_force, after_reset, granted, weight_holds, load_holds, typed_holds, unit_holds, tallied, holds, after_event, event_holds, accepts}
use Rattle.history.specs.TypedTares.{shows_typed, event_shows, shown_as_typed}
use Rattle.history.specs.Waits.{waits_hold}

pub all_rejected : all_tell rows ≡ true
unfolding
    weight_rows
    state_rows
    wait_rows
    sent_rows
    sending_rows
    buffer_rows
    unit_rows
    range_rows
    rows
    taken_events
    all_tell
    in_force
    after_reset
    granted
    weight_holds
    load_holds
    typed_holds
    unit_holds
    tallied
    holds
    after_event
    event_holds
    accepts
    waits_hold
    sends_after_line
    sends_after
    sends_hold
    sender_holds
    pieces_after
    pieces_of
    pieces_hold
    host_accepts
    shows_typed
    event_shows
    shown_as_typed
    place_in
    place_of
    head_text
    weight_text
    line_of
    guessed
    confirms
    read_line
    field_of
    is_decimal
    decimals_in
    value_in
    is_written
    read_number
    read_field
    first_marked
    unit_named
    unit_coded
    unit_in
    last_digits
    digits_in
    digits_of
    decimal_of
    number_text
    width_of
    fits_field
    place_femtograms
    step_femtograms
    exact_femtograms
    preset_resolution
    typed_resolution
    round_away
    steps_of
    places_of
    preset_steps
    preset_places
    preset_micrograms
    preset_femtograms
    typed_femtograms
    typed_micrograms
    amount_of
    is_typed
    read_typed
    half_up
all_rejected = refl
