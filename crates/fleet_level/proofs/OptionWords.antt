-- The words of a command line, read as options of the level scheduler.
use Rattle.std.proofs.Common.{◌≡◌, refl, sym, ◌∙◌, ap, ℕ, ◌<◌, ◌^◌, List, [], ◌∷◌, map, length, get_or, Bool, true, false, Bor, arith}
use Rattle.std.specs.Prelude.{Some, None, ◌&&◌, nat_lt, if◌then◌else◌, codes, decimal}
use Rattle.std.proofs.lemmas.Fmt.{decimal_injective}
use Rattle.sched_model.specs.Levels.{LevelOptions, are_allowed}
use Rattle.fleet_text.specs.Reading.{Reads}
use Rattle.fleet_level.specs.Options.{FitOptions, option_words}

-- Five words, each given by its place, that name options.
pub are_words : (ws : List (Bor (List ℕ))) (a b c d e : Bor (List ℕ)) (o : LevelOptions) → length ws ≡ 5 → (get_or ws 0 a).now ≡ codes "run" → (get_or ws 1 b).now ≡ codes "level"
    → (get_or ws 2 c).now ≡ decimal o.l0_trigger → (get_or ws 3 d).now ≡ decimal o.base → (get_or ws 4 e).now ≡ decimal o.ratio → map (λ w. w.now) ws ≡ option_words o
are_words (u ∷ v ∷ w ∷ x ∷ y ∷ []) a b c d e o five run level trigger base ratio = cc (run, level, trigger, base, ratio)
are_words _ a b c d e o five run level trigger base ratio = absurd (omega (arith, five))

-- The fifth word of options is the ratio.
pub last_word : (ws : List (Bor (List ℕ))) (a : Bor (List ℕ)) (o : LevelOptions) → length ws ≡ 5 → map (λ w. w.now) ws ≡ option_words o → (get_or ws 4 a).now ≡ decimal o.ratio
last_word (u ∷ v ∷ w ∷ x ∷ y ∷ []) a o five same = cc same
last_word _ a o five same = absurd (omega (arith, five))

-- Options with the same words have the same numbers.
same_numbers : (o p : LevelOptions) → FitOptions p → o.l0_trigger < 2 ^ 64 → o.base < 2 ^ 64 → o.ratio < 2 ^ 64 → option_words o ≡ option_words p
    → (o.l0_trigger ≡ p.l0_trigger) × (o.base ≡ p.base) × (o.ratio ≡ p.ratio)
same_numbers o p fits trigger base ratio same =
    (decimal_injective o.l0_trigger p.l0_trigger trigger fits.l0_trigger (cc same), decimal_injective o.base p.base base fits.base (cc same), decimal_injective o.ratio p.ratio ratio fits.ratio (cc same))

same_allowed : (o p : LevelOptions) → (o.l0_trigger ≡ p.l0_trigger) × (o.base ≡ p.base) × (o.ratio ≡ p.ratio) → are_allowed o ≡ are_allowed p
same_allowed o p (trigger, base, ratio) =
    ap (λ n. nat_lt 0 n && nat_lt 0 o.base && nat_lt 1 o.ratio) trigger
    ∙ ap (λ n. nat_lt 0 p.l0_trigger && nat_lt 0 n && nat_lt 1 o.ratio) base
    ∙ ap (λ n. nat_lt 0 p.l0_trigger && nat_lt 0 p.base && nat_lt 1 n) ratio

-- The words with these numbers name the options if they are allowed, and otherwise no options.
pub reads_options : (o : LevelOptions) (text : List (List ℕ)) → o.l0_trigger < 2 ^ 64 → o.base < 2 ^ 64 → o.ratio < 2 ^ 64 → text ≡ option_words o
    → Reads option_words FitOptions text (if are_allowed o then Some o else None)
reads_options o text trigger base ratio is = by (are_allowed o) refl
  where
    by : (test : Bool) → are_allowed o ≡ test → Reads option_words FitOptions text (if test then Some o else None)
    by true allowed = (record { allowed = allowed; l0_trigger = trigger; base = base; ratio = ratio }, is)
    by false not_allowed = λ p fits same.
        absurd (cc (sym not_allowed ∙ same_allowed o p (same_numbers o p fits trigger base ratio (sym is ∙ same)) ∙ fits.allowed))
