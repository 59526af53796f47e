use Rattle.std.proofs.Common.{rules, ◌≡◌, ◌∷◌}
use Rattle.fleet_worker.proofs.Claims.{note_fits, noted_one}
use Rattle.fleet_worker.proofs.claim.note_each.Goals as goal

pub note-requires : goal.note-requires
note-requires g c =
    let is : c.notes.note-iterator.rest.items ≡ c.in-Some.note ∷ c.next.new.self.rest.items = search rules in
    note_fits _ _ c.args.notes.items c.notes.note-iterator.rest.items c.next.new.self.rest.items c.in-Some.note c.notes.invariant is c.requires.lawful

pub notes-preserved : goal.notes-preserved
notes-preserved g c =
    let is : c.notes.note-iterator.rest.items ≡ c.in-Some.note ∷ c.next.new.self.rest.items = search rules in
    noted_one _ _ c.args.notes.items c.notes.note-iterator.rest.items c.next.new.self.rest.items c.in-Some.note c.notes.invariant is c.in_ok-note.ensures
