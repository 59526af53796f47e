use Rattle.std.proofs.Common.{refl, sym, ◌∙◌}
use Rattle.fleet_level.specs.Options.{level_options}
use Rattle.fleet_level.proofs.OptionWords.{are_words, last_word, reads_options}
use Rattle.fleet_level.proofs.options.LevelOptions.from_words.Goals as goal

pub returns-in_err-ratio : goal.returns-in_err-ratio
returns-in_err-ratio c =
    rw c.from_residual-in_err-ratio.ensures
    (λ o fits same. c.in_err-ratio.ensures o.ratio fits.ratio (c.as_bytes-4.ensures.value ∙ last_word c.args.words.now _ o c.if-words-ne5.false same))

pub returns : goal.returns
returns c =
    let o = level_options c.in_ok-l0_trigger.l0_trigger c.in_ok-base.base c.in_ok-ratio.ratio in
    let named = are_words c.args.words.now _ _ _ _ _ o c.if-words-ne5.false (sym c.as_bytes.ensures.value ∙ c.if-not-is_word.ensures.0 refl) (sym c.as_bytes-else-not-is_word.ensures.value ∙ c.if-not-is_word-2.ensures.0 refl)
    (sym c.as_bytes-2.ensures.value ∙ c.in_ok-l0_trigger.ensures.1)
    (sym c.as_bytes-3.ensures.value ∙ c.in_ok-base.ensures.1)
    (sym c.as_bytes-4.ensures.value ∙ c.in_ok-ratio.ensures.1) in
    rw c.try_new.ensures (reads_options o _ c.in_ok-l0_trigger.ensures.0 c.in_ok-base.ensures.0 c.in_ok-ratio.ensures.0 named)
