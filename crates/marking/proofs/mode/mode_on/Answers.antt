-- Each way out is one row that holds after those that don't.
use Rattle.calls.proofs.Laws.Exits.{exits}
use Rattle.calls.proofs.Laws.Ready.{on_usable}
use Rattle.calls.proofs.Laws.Files.{slot_within}
use Rattle.calls.proofs.Laws.Named.{named, file_named, file_slot_lem, found_below}
use Rattle.calls.proofs.Laws.Attribute.{attr_fits}
use Rattle.marking.proofs.Laws.Mode.{function_stops, function_past, attr_stops, attr_past, open_stops, mode_refused, mode_read, mode_set}
use Rattle.std.proofs.Common.{◌<◌, arith, rules, refl}
use Rattle.diskette.specs.Places.{root_entries}
use Rattle.marking.proofs.mode.mode_on.Goals.{then-is_bad_attr-via-then-is_bad_attr, then-is_bad_attr-via-else-is_bad_attr+then-is_open}
use Rattle.marking.proofs.mode.mode_on.Goals as goal

ruleset rows = (named, function_stops, function_past, attr_stops, attr_past, open_stops, file_slot_lem)

pub returns-in_err-asked : goal.returns-in_err-asked
returns-in_err-asked c = mode_refused (exits c.from_residual.ensures.1) (search (rows, c.in_err-asked.was))

pub returns-in_err-name : goal.returns-in_err-name
returns-in_err-name c = mode_refused (exits c.from_residual-in_err-name.ensures.1) (search (rows, c.in_ok-asked.was, c.in_err-name.was))

pub returns-in_err-slot : goal.returns-in_err-slot
returns-in_err-slot c = mode_refused (exits c.from_residual-in_err-slot.ensures.1) (search (rows, c.in_ok-asked.was, c.in_ok-name.was, c.in_err-slot.was))

pub slot_at-a-requires-clause-usable : goal.slot_at-a-requires-clause-usable
slot_at-a-requires-clause-usable c = search on_usable

pub slot_at-a-requires-clause-slot_bound : goal.slot_at-a-requires-clause-slot_bound
slot_at-a-requires-clause-slot_bound c =
    let h : c.in_ok-slot.slot < root_entries c.args.k = search (found_below, c.in_ok-name.was, c.in_ok-slot.was) in
    omega arith

pub attr_at-requires : goal.attr_at-requires
attr_at-requires c = search (slot_within, found_below, c.in_ok-name.was, c.in_ok-slot.was)

pub returns-then-is_bad_attr : goal.returns-then-is_bad_attr
returns-then-is_bad_attr c =
    mode_refused refl
    (elim c.then-is_bad_attr.branch [
      | then-is_bad_attr-via-then-is_bad_attr w ↦ search (rows, c.in_ok-asked.was, c.in_ok-asked.ensures, c.in_ok-name.was, c.in_ok-slot.was) depth 8
      | then-is_bad_attr-via-else-is_bad_attr+then-is_open w ↦ search (rows, c.in_ok-asked.was, c.in_ok-asked.ensures, c.in_ok-name.was, c.in_ok-slot.was, w.if-is_bad_attr.false, w.is_open.ensures, w.if-is_open.true) depth 9 fits 5000
    ])

pub overflow_cast-attr : goal.overflow_cast-attr
overflow_cast-attr c = search (rules, attr_fits)

pub put_attr-requires : goal.put_attr-requires
put_attr-requires c = search (slot_within, found_below, c.in_ok-name.was, c.in_ok-slot.was)

pub returns-in-Tell : goal.returns-in-Tell
returns-in-Tell c = search (mode_read, file_named, c.in_ok-asked.ensures, c.in_ok-name.was, c.in_ok-slot.was)

pub returns-else-is_open : goal.returns-else-is_open
returns-else-is_open c = search (mode_set, file_named, c.in_ok-asked.ensures, c.in_ok-name.was, c.in_ok-slot.was)
