use Rattle.std.proofs.Common.{sym, ◌∙◌, arith}
use Rattle.fleet_run.proofs.CommandWords.{too_many_rounds}
use Rattle.fleet_run.proofs.command.generate_from.Goals as goal

pub returns-then-rounds-gt-MOST_ROUNDS : goal.returns-then-rounds-gt-MOST_ROUNDS
returns-then-rounds-gt-MOST_ROUNDS c = λ x allowed same.
    too_many_rounds c.args.word.now c.args.number.now c.in_ok-rounds.rounds x c.in_ok-rounds.ensures.0 (omega arith) allowed
    (rw (sym (sym c.as_bytes-3.ensures.value ∙ c.in_ok-rounds.ensures.1)) same)
