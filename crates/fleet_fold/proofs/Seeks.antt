-- What a seek of a retention iterator answers.
use Rattle.std.proofs.Common.{◌≡◌, ◌∙◌, sym, refl, ap, subst, ℕ, List, [], ◌∷◌, ◌++◌, ◌&&◌, Bool, true, false, Option, Some, None, Ok, Err}
use Rattle.std.proofs.lemmas.Bool.{true_from_ne_false}
use Rattle.std.specs.Option.{option_to_list}
use Rattle.row_model.specs.KeptRows.{kept_of_keys}
use Rattle.row_model.specs.Rows.{Row}
use Rattle.row_model.specs.Settings.{Settings}
use Rattle.fleet_iter.specs.Iteration.{IteratorState, AreRising, CanFail, IsKnown, KeepsRefusal, from_key, is_exact, Moves, Nexts, Seeks}
use Rattle.fleet_iter.proofs.Failures.{next_refused, seek_refused}
use Rattle.fleet_iter.proofs.RisingRows.{moves_on, moves_alive, moves_rising, rising_from}
use Rattle.fleet_rows.specs.Row.{rows_of}
use Rattle.fleet_rows.specs.declared.row.RowEntry.{RowEntry}
use Rattle.fleet_rows.specs.declared.errors.SlateDBError.{SlateDBError}
use Rattle.fleet_fold.specs.Retention.{kept_given, from_ahead, retained_state, ReadsOn, Knows}
use Rattle.fleet_fold.proofs.Keys.{sought, seek-through, seek-within, rising_back}
use Rattle.fleet_fold.proofs.Rising.{given_rise}

pub known : (failure : Option SlateDBError) (buffer : List RowEntry) (ahead : Option RowEntry) (inner : IteratorState) → failure ≡ None → Knows failure buffer ahead inner → ReadsOn buffer ahead inner
known (Some x) buffer ahead inner e h = absurd (cc e)
known None buffer ahead inner e h = h

second : (a b : Bool) → a && b ≡ true → b ≡ true
second true b h = h
second false b h = absurd (cc h)

apart : (b : Bool) → b ≡ true → b ≡ false → ⊥
apart true h g = cc g
apart false h g = cc h

module _ (key : List ℕ) (settings : Settings) (failure : Option SlateDBError) (alive : failure ≡ None) where
  abbrev K : List Row → List Row
  K = kept_of_keys settings

  -- If rows of the buffer are left, the buffer had rows.
  was_some : (buffer left : List RowEntry) → rows_of left ≡ from_key key (rows_of buffer) → (left ≡ [] → ⊥) → buffer ≡ [] → ⊥
  was_some [] [] h some e = some refl
  was_some [] (r ∷ left) h some e = cc h
  was_some (r ∷ buffer) left h some e = cc e

  none_of : (left : List RowEntry) → rows_of left ≡ [] → left ≡ []
  none_of [] h = refl
  none_of (r ∷ left) h = absurd (cc h)

  same_state : (inner : IteratorState) (xs ys : List Row) → xs ≡ ys
      → ◌≡◌ {A = IteratorState} (record { rows = xs; initialised = inner.initialised; failure = failure; whole = inner.whole; steady = inner.steady; refusal = inner.refusal })
      (record { rows = ys; initialised = inner.initialised; failure = failure; whole = inner.whole; steady = inner.steady; refusal = inner.refusal })
  same_state inner xs ys e = ap (λ (w : List Row). record { rows = w; initialised = inner.initialised; failure = failure; whole = inner.whole; steady = inner.steady; refusal = inner.refusal }) e

  -- If the buffer has rows from the key on, dropping the rows below the key from the buffer is a seek.
  pub in_buffer : (buffer left : List RowEntry) (ahead : Option RowEntry) (inner : IteratorState) → ReadsOn buffer ahead inner → rows_of left ≡ from_key key (rows_of buffer) → (left ≡ [] → ⊥) → AreRising (retained_state failure settings buffer ahead inner).rows
      → Seeks key (retained_state failure settings buffer ahead inner) (retained_state failure settings left ahead inner) (Ok tt)
  in_buffer buffer left ahead inner knows is some rising =
      let kept : List Row = kept_given settings inner.whole (from_ahead ahead inner) in
      record {
        failed = λ q. absurd (q alive);
        uninitialised = λ q i. absurd (apart inner.initialised (knows.begun (was_some buffer left is some)) i);
        answers = λ q i. moves_on key (retained_state failure settings buffer ahead inner) (retained_state failure settings left ahead inner) rising
            (same_state inner (rows_of left ++ kept) (from_key key (rows_of buffer ++ kept))
            (ap (λ (w : List Row). w ++ kept) is ∙ sym (seek-within key (rows_of buffer) kept (λ none. some (none_of left (is ∙ none))))));
      }

  -- If no row of the buffer is left, the seek goes on in the rows after it.
  afterwards : (buffer left : List RowEntry) (ahead : Option RowEntry) (inner : IteratorState) → ReadsOn buffer ahead inner → rows_of left ≡ from_key key (rows_of buffer) → left ≡ []
      → K (from_key key (from_ahead ahead inner)) ≡ from_key key (rows_of buffer ++ K (from_ahead ahead inner))
  afterwards buffer left ahead inner knows is none =
      sym (seek-through key (rows_of buffer) (K (from_ahead ahead inner)) (sym is ∙ ap (λ (w : List RowEntry). rows_of w) none) ∙ sought key settings (from_ahead ahead inner) knows.rising)

  was_ahead : (ahead later : Option RowEntry) → rows_of (option_to_list later) ≡ from_key key (rows_of (option_to_list ahead)) → (later ≡ None → ⊥) → ahead ≡ None → ⊥
  was_ahead None None h some e = some refl
  was_ahead None (Some r) h some e = cc h
  was_ahead (Some r) later h some e = cc e

  none_ahead : (later : Option RowEntry) → rows_of (option_to_list later) ≡ [] → later ≡ None
  none_ahead None h = refl
  none_ahead (Some r) h = absurd (cc h)

  -- What is kept of the rows left, if the inner iterator is whole.
  module _ (buffer left : List RowEntry) (ahead later : Option RowEntry) (inner : IteratorState) (knows : ReadsOn buffer ahead inner) (is : rows_of left ≡ from_key key (rows_of buffer)) (none : left ≡ []) where
    stated : (rows : List Row) → inner.whole ≡ true → rows ≡ from_key key (from_ahead ahead inner) → rows_of left ++ kept_given settings inner.whole rows ≡ from_key key (rows_of buffer ++ kept_given settings inner.whole (from_ahead ahead inner))
    stated rows all from =
        ap (λ (w : List RowEntry). rows_of w ++ kept_given settings inner.whole rows) none
        ∙ (ap (λ (b : Bool). kept_given settings b rows) all
        ∙ (ap K from
        ∙ (afterwards buffer left ahead inner knows is none ∙ ap (λ (b : Bool). from_key key (rows_of buffer ++ kept_given settings b (from_ahead ahead inner))) (sym all))))

    rises : (whole : Bool) (rows : List Row) → AreRising rows → AreRising (rows_of left ++ kept_given settings whole rows)
    rises whole rows rising = subst (λ (w : List RowEntry). AreRising (rows_of w ++ kept_given settings whole rows)) (sym none) (given_rise settings whole rows rising)

    -- A row that was read ahead stays, since it is not below the key.
    pub at_ahead : rows_of (option_to_list later) ≡ from_key key (rows_of (option_to_list ahead)) → (later ≡ None → ⊥) → AreRising (retained_state failure settings buffer ahead inner).rows
        → Seeks key (retained_state failure settings buffer ahead inner) (retained_state failure settings left later inner) (Ok tt)
    at_ahead at some rising = record {
      failed = λ q. absurd (q alive);
      uninitialised = λ q i. absurd (apart inner.initialised (knows.ahead_begun (was_ahead ahead later at some)) i);
      answers = λ q i. by (is_exact inner) refl;
    }
      where
        from : from_ahead later inner ≡ from_key key (from_ahead ahead inner)
        from = ap (λ (w : List Row). w ++ inner.rows) at ∙ sym (seek-within key (rows_of (option_to_list ahead)) inner.rows (λ empty. some (none_ahead later (at ∙ empty))))

        by : (exact : Bool) → is_exact inner ≡ exact → Moves (is_exact inner) key (retained_state failure settings buffer ahead inner) (retained_state failure settings left later inner)
        by true e =
            moves_on key (retained_state failure settings buffer ahead inner) (retained_state failure settings left later inner) rising
            (same_state inner (rows_of left ++ kept_given settings inner.whole (from_ahead later inner)) (from_key key (rows_of buffer ++ kept_given settings inner.whole (from_ahead ahead inner))) (stated (from_ahead later inner) (second inner.steady inner.whole e) from))
        by false e =
            subst (λ w. Moves w key (retained_state failure settings buffer ahead inner) (retained_state failure settings left later inner)) (sym e)
            (record { initialised = refl; failure = refl; rising = rises inner.whole (from_ahead later inner) (subst AreRising (sym from) (rising_from key (from_ahead ahead inner) knows.rising)) })

    -- The inner iterator is sought.
    moved : (after : IteratorState) → rows_of (option_to_list later) ≡ from_key key (rows_of (option_to_list ahead)) → later ≡ None → AreRising (retained_state failure settings buffer ahead inner).rows
        → (exact : Bool) → is_exact inner ≡ exact → Moves exact key inner after → Moves (is_exact inner) key (retained_state failure settings buffer ahead inner) (retained_state failure settings left later after)
    moved after at gone rising true e moves =
        moves_on key (retained_state failure settings buffer ahead inner) (retained_state failure settings left later after) rising
        (ap (λ (s : IteratorState). retained_state failure settings left later s) moves
        ∙ same_state inner (rows_of left ++ kept_given settings inner.whole (rows_of (option_to_list later) ++ from_key key inner.rows)) (from_key key (rows_of buffer ++ kept_given settings inner.whole (from_ahead ahead inner)))
        (stated (rows_of (option_to_list later) ++ from_key key inner.rows) (second inner.steady inner.whole e)
        (ap (λ (o : Option RowEntry). rows_of (option_to_list o) ++ from_key key inner.rows) gone
        ∙ sym (seek-through key (rows_of (option_to_list ahead)) inner.rows (sym at ∙ ap (λ (o : Option RowEntry). rows_of (option_to_list o)) gone)))))
    moved after at gone rising false e moves =
        let left_over : from_ahead later after ≡ after.rows = ap (λ (o : Option RowEntry). rows_of (option_to_list o) ++ after.rows) gone in
        subst (λ w. Moves w key (retained_state failure settings buffer ahead inner) (retained_state failure settings left later after)) (sym e)
        (record { initialised = moves.initialised; failure = refl; rising = rises after.whole (from_ahead later after) (subst AreRising (sym left_over) moves.rising) })

  -- An iterator of which a seek succeeded was initialised.
  was_initialised : (inner after : IteratorState) → inner.failure ≡ None → Seeks key inner after (Ok tt) → inner.initialised ≡ true
  was_initialised inner after clean seeks = true_from_ne_false inner.initialised (λ i. let e = (seeks.uninitialised clean i).answer in cc e)

  pub in_inner : (buffer left : List RowEntry) (ahead later : Option RowEntry) (inner after : IteratorState) → ReadsOn buffer ahead inner → rows_of left ≡ from_key key (rows_of buffer) → left ≡ []
      → rows_of (option_to_list later) ≡ from_key key (rows_of (option_to_list ahead)) → later ≡ None → AreRising (retained_state failure settings buffer ahead inner).rows → Seeks key inner after (Ok tt)
      → Seeks key (retained_state failure settings buffer ahead inner) (retained_state failure settings left later after) (Ok tt)
  in_inner buffer left ahead later inner after knows is none at gone rising seeks =
      let begun = was_initialised inner after knows.alive seeks in
      record {
        failed = λ q. absurd (q alive);
        uninitialised = λ q i. absurd (apart inner.initialised begun i);
        answers = λ q i. moved buffer left ahead later inner knows is none after at gone rising (is_exact inner) refl (seeks.answers knows.alive begun);
      }

  -- If nothing is buffered or read ahead and a seek of the inner iterator succeeds, a retention iterator
  -- reads on.
  pub in_inner_sound : (buffer left : List RowEntry) (ahead later : Option RowEntry) (inner after : IteratorState) → ReadsOn buffer ahead inner → left ≡ [] → later ≡ None → Seeks key inner after (Ok tt) → ReadsOn left later after
  in_inner_sound buffer left ahead later inner after knows none gone seeks =
      let begun = was_initialised inner after knows.alive seeks in
      let moves : Moves (is_exact inner) key inner after = seeks.answers knows.alive begun in
      record {
        alive = moves_alive key inner after (is_exact inner) moves ∙ knows.alive;
        begun = λ other. absurd (other none);
        ahead_begun = λ other. absurd (other gone);
        rising = subst (λ (o : Option RowEntry). AreRising (rows_of (option_to_list o) ++ after.rows)) (sym gone)
            (moves_rising key inner after (is_exact inner) moves (rising_back (rows_of (option_to_list ahead)) inner.rows knows.rising));
      }

-- ---- a refusal of the inner iterator

empty_of : (buffer : List RowEntry) → ((buffer ≡ [] → ⊥) → ⊥) → buffer ≡ []
empty_of [] h = refl
empty_of (r ∷ buffer) h = absurd (h (λ none. cc none))

none_of_rows : (rows : List RowEntry) → rows_of rows ≡ [] → rows ≡ []
none_of_rows [] h = refl
none_of_rows (r ∷ rows) h = absurd (cc h)

nothing_of : (ahead : Option RowEntry) → ((ahead ≡ None → ⊥) → ⊥) → ahead ≡ None
nothing_of None h = refl
nothing_of (Some r) h = absurd (h (λ none. cc none))

nothing_of_rows : (ahead : Option RowEntry) → rows_of (option_to_list ahead) ≡ [] → ahead ≡ None
nothing_of_rows None h = refl
nothing_of_rows (Some r) h = absurd (cc h)

clash : (b : Bool) → b ≡ true → b ≡ false → ⊥
clash true h g = cc g
clash false h g = cc h

module _ (settings : Settings) (failure kept : Option SlateDBError) (buffer : List RowEntry) (ahead : Option RowEntry) (inner after : IteratorState) (e answer : SlateDBError) (alive : failure ≡ None) (knows : ReadsOn buffer ahead inner) (keeps : KeepsRefusal e failure kept answer) where
  -- If a seek of the inner iterator is refused, the seek of a retention iterator answers the error that
  -- is kept.
  pub seek_refused_kept : (key : List ℕ) (left : List RowEntry) (later : Option RowEntry) → rows_of left ≡ from_key key (rows_of buffer) → rows_of (option_to_list later) ≡ from_key key (rows_of (option_to_list ahead))
      → Seeks key inner after (Err e) → Seeks key (retained_state failure settings buffer ahead inner) (retained_state kept settings left later after) (Err answer)
  seek_refused_kept key left later is at seeks =
      seek_refused (retained_state failure settings buffer ahead inner) (retained_state kept settings left later after) inner after e answer alive knows.alive keeps refl stays key (λ exact. exact) seeks
    where
      stays : inner.initialised ≡ false → after ≡ inner → kept ≡ failure → retained_state kept settings left later after ≡ retained_state failure settings buffer ahead inner
      stays begun same none =
          let empty : buffer ≡ [] = empty_of buffer (λ some. clash inner.initialised (knows.begun some) begun) in
          let gone : left ≡ [] = none_of_rows left (is ∙ ap (λ (w : List RowEntry). from_key key (rows_of w)) empty) in
          let nothing : ahead ≡ None = nothing_of ahead (λ some. clash inner.initialised (knows.ahead_begun some) begun) in
          let gone_too : later ≡ None = nothing_of_rows later (at ∙ ap (λ (o : Option RowEntry). from_key key (rows_of (option_to_list o))) nothing) in
          ap (λ (f : Option SlateDBError). retained_state f settings left later after) none
          ∙ (ap (λ (s : IteratorState). retained_state failure settings left later s) same
          ∙ (ap (λ (w : List RowEntry). retained_state failure settings w later inner) (gone ∙ sym empty)
          ∙ ap (λ (o : Option RowEntry). retained_state failure settings buffer o inner) (gone_too ∙ sym nothing)))

  -- If nothing is buffered or read ahead and `next` of the inner iterator is refused, `next` of a
  -- retention iterator answers the error that is kept.
  pub next_refused_kept : buffer ≡ [] → ahead ≡ None → Nexts inner after (Err e) → Nexts (retained_state failure settings buffer ahead inner) (retained_state kept settings buffer ahead after) (Err answer)
  next_refused_kept empty nothing nexts =
      next_refused (retained_state failure settings buffer ahead inner) (retained_state kept settings buffer ahead after) inner after e answer alive knows.alive keeps refl stays (λ whole. whole) known nexts
    where
      stays : inner.initialised ≡ false → after ≡ inner → kept ≡ failure → retained_state kept settings buffer ahead after ≡ retained_state failure settings buffer ahead inner
      stays begun same none = ap (λ (f : Option SlateDBError). retained_state f settings buffer ahead after) none ∙ ap (λ (s : IteratorState). retained_state failure settings buffer ahead s) same

      known : IsKnown inner e → CanFail inner.whole e → IsKnown (retained_state failure settings buffer ahead inner) e
      known stated cause afterwards is other =
          let (none, as_stated) = stated afterwards is other in (
            ap (λ (w : List RowEntry). rows_of w ++ kept_given settings inner.whole (from_ahead ahead inner)) empty
                ∙ (ap (λ (o : Option RowEntry). kept_given settings inner.whole (rows_of (option_to_list o) ++ inner.rows)) nothing
                ∙ (ap (kept_given settings inner.whole) none ∙ by inner.whole refl)),
            as_stated,
          )
        where
          by : (w : Bool) → inner.whole ≡ w → kept_given settings w [] ≡ []
          by true whole = absurd (other (cause.memory whole))
          by false whole = refl
