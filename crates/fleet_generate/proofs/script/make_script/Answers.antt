use Rattle.std.proofs.Common.{ℕ, codes, ◌-◌, ◌+◌, ◌++◌, string_bytes, ap, ◌∙◌, arith}
use Rattle.std.specs.Prelude.{flat_map}
use Rattle.script_model.specs.Script.{script_text}
use Rattle.script_model.specs.Generated.{made_in_turn, generated_round}
use Rattle.fleet_generate.proofs.Turns.{one_more, all_made, script_spelt}
use Rattle.fleet_generate.proofs.script.make_script.Goals as goal

pub rounds-preserved : goal.rounds-preserved
rounds-preserved c =
    one_more script_text generated_round _ _ (c.args.rounds - c.rounds.round) (c.args.rounds - (c.rounds.round + 1)) c.rounds.round (string_bytes c.rounds.text) _ c.rounds.generator.state _
    (omega (arith, c.rounds-test.true)) c.rounds.invariant c.in_ok-append_round.ensures.text c.in_ok-append_round.ensures.state

pub returns-clause-script : goal.returns-clause-script
returns-clause-script c =
    let made = all_made script_text generated_round _ _ (c.args.rounds - c.rounds.round) c.rounds.round (string_bytes c.rounds.text) _ (omega (arith, c.rounds-test.false)) c.rounds.invariant in
    let rounds = λ (x : ℕ). flat_map script_text (made_in_turn generated_round c.args.rounds 0 x).0 in
    script_spelt c.args.number c.args.rounds _
    (ap (λ v. v.items) c.into_bytes.ensures.value ∙ made.0 ∙ ap (λ t. t ++ rounds c.new-generator.result.state) c.in_ok-text.ensures.ok ∙ ap (λ x. codes "start coordinator 1\nstart worker 1\n" ++ rounds x) c.new-generator.ensures)
