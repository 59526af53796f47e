-- The id of a table that a party drew last is new until it puts the table, whatever others do.
use Rattle.std.proofs.Common.{◌≡◌, ◌≢◌, refl, sym, ◌∙◌, ap, ℕ, ◌+◌, ◌<◌, ◌≤◌, List, [], ◌∷◌, ◌++◌, cond, Bool, true, false, inl, inr, ◌⊎◌, Option, Some, None, arith}
use Rattle.std.specs.Prelude.{◌==◌, ◌&&◌, ◌||◌, nat_lt, option_map, ⊤}
use Rattle.std.specs.List.{AllByRecursion, list_any}
use Rattle.std.proofs.lemmas.Bool.Decides.{Decides-eqb}
use Rattle.std.proofs.lemmas.Bool.{ltb-true}
use Rattle.row_model.specs.Lists.{Pairs}
use Rattle.row_model.specs.Rows.{Row}
use Rattle.row_model.specs.Fold.{Operator}
use Rattle.fleet_model.specs.Nodes.{is_among}
use Rattle.fleet_model.specs.Jobs.{number_of, table_id_of, drawn_base}
use Rattle.fleet_model.specs.History.{Party, Event, DrawTable, PutTable, Entry}
use Rattle.fleet_model.specs.Store.{Store}
use Rattle.fleet_model.specs.Exchanges.{Exchange, Plain, DrawsJob, DrawsTable, PutsTable, PutsManifest, PutsRecords, ListsTables, DeletesTable, records_version, after_exchange, next_table_id}
use Rattle.step_model.specs.Past.{World}
use Rattle.step_model.specs.Entries.{party_eq, last_from, last_event, last_name, name_in, was_flushed, drawn_tables, table_drawn_in}
use Rattle.step_model.specs.Kept.TablesKept.{IsKnownTable, IsKnownPiece}
use Rattle.step_model.specs.LawfulTables.{DrawFits, MayName}
use Rattle.step_model.specs.Lawful.{Lawful}
use Rattle.step_model.specs.Rivals.{Caller, Strike, RivalCall, IsRival, Rivals, store_after_call, after_call, after_rival}
use Rattle.step_model.specs.Kept.Keeps.{Keeps}
use Rattle.step_laws.specs.Runs.{CallsKeep}
use Rattle.step_laws.proofs.Elements.{IsIn, all_at, any_element, any_push_no, Passes, contains_in, in_front, in_back}
use Rattle.course_laws.proofs.Later.{entry_by, call_history}
use Rattle.course_laws.proofs.Calls.{rivals_hold, both, or_cases}
use Rattle.course_laws.proofs.Puts.{party_itself}
use Rattle.course_laws.proofs.NewIds.{number}
use Rattle.course_laws.proofs.Sweeps.{last_other}
use Rattle.course_laws.proofs.Flushes.{not_flushed}
use Rattle.course_laws.proofs.Held.{drawn_is_high}
use Rattle.rival_laws.proofs.SameParty.{party_same}
use Rattle.step_laws.proofs.TablePuts.{last_drawn}
use Rattle.rival_laws.proofs.FreeTables.{refused}

-- ---- one draw, one party

abbrev draws_table : ℕ → Event → Bool
draws_table id (DrawTable other) = id == other
draws_table id event = false

-- The party drew this id for a table.
abbrev drew_table : Party → List Entry → ℕ → Bool
drew_table party history id = list_any (λ entry. party_eq party entry.party && draws_table id entry.event) history

pub or_left : (a b : Bool) → a ≡ true → (a || b) ≡ true
or_left true b e = refl
or_left false b e = absurd (cc e)

pub or_right : (a b : Bool) → b ≡ true → (a || b) ≡ true
or_right true b e = refl
or_right false b e = e

-- An id that a party drew for a table is among the ids drawn for tables.
drew_in : (party : Party) (id : ℕ) (history : List Entry) → drew_table party history id ≡ true → IsIn id (drawn_tables history)
drew_in party id history h = at history (any_element (λ (e : Entry). party_eq party e.party && draws_table id e.event) history h)
  where
    draw : (own : Bool) (event : Event) → (own && draws_table id event) ≡ true → IsIn id (table_drawn_in event)
    draw true (DrawTable other) e = inl (sym ((Decides-eqb id other).0 e))
    draw false event e = absurd (cc e)
    draw true event e = absurd (cc e)

    after : (es : List Entry) (x : Entry) → IsIn x es → IsIn id (table_drawn_in x.event) → IsIn id (drawn_tables es)
    after [] x there one = absurd there
    after (y ∷ es) x (inl same) one = in_front id (table_drawn_in y.event) (drawn_tables es) (rw same one)
    after (y ∷ es) x (inr there) one = in_back id (table_drawn_in y.event) (drawn_tables es) (after es x there one)

    at : (es : List Entry) → Passes (λ (e : Entry). party_eq party e.party && draws_table id e.event) es → IsIn id (drawn_tables es)
    at es found = after es found.element found.there (draw (party_eq party found.element.party) found.element.event found.passes)

-- An id is drawn once, so one party drew it.
one_table : (a b : Party) (id : ℕ) (history : List Entry) → Pairs (λ x y. number_of x < number_of y) (drawn_tables history) → drew_table a history id ≡ true → drew_table b history id ≡ true → a ≡ b
one_table a b id [] rise one other = absurd (cc one)
one_table a b id (entry ∷ history) rise one other = by entry.event refl (or_cases (party_eq a entry.party && draws_table id entry.event) _ one) (or_cases (party_eq b entry.party && draws_table id entry.event) _ other) rise (one_table a b id history)
  where
    After : Party → Event → Type 0
    After party event = ((party_eq party entry.party && draws_table id event) ≡ true) ⊎ (drew_table party history id ≡ true)

    clash : (party : Party) (drawn : ℕ) → (party_eq party entry.party && draws_table id (DrawTable drawn)) ≡ true → (p : Party) → drew_table p history id ≡ true → AllByRecursion (λ y. number_of drawn < number_of y) (drawn_tables history) → ⊥
    clash party drawn first p second low =
        let same = (Decides-eqb id drawn).0 (both (party_eq party entry.party) _ first).1 in
        let above = all_at (λ y. number_of drawn < number_of y) (drawn_tables history) id low (drew_in p id history second) in
        let equal = ap number_of same in
        omega (arith, above, equal)

    by : (event : Event) → entry.event ≡ event → After a event → After b event → Pairs (λ x y. number_of x < number_of y) (table_drawn_in event ++ drawn_tables history)
        → (Pairs (λ x y. number_of x < number_of y) (drawn_tables history) → drew_table a history id ≡ true → drew_table b history id ≡ true → a ≡ b) → a ≡ b
    by (DrawTable drawn) e (inl first) (inl second) rise rest = party_same a entry.party (both _ _ first).0 ∙ sym (party_same b entry.party (both _ _ second).0)
    by (DrawTable drawn) e (inl first) (inr second) rise rest = absurd (clash a drawn first b second rise.0)
    by (DrawTable drawn) e (inr first) (inl second) rise rest = absurd (clash b drawn second a first rise.0)
    by (DrawTable drawn) e (inr first) (inr second) rise rest = rest rise.1 first second
    by event e (inr first) (inr second) rise rest = rest rise first second
    by event e (inl first) other rise rest = absurd (cc (both (party_eq a entry.party) _ first).1)
    by event e one (inl second) rise rest = absurd (cc (both (party_eq b entry.party) _ second).1)

-- The party of the last event is the one that drew.
last_mine : (party : Party) (id : ℕ) (history : List Entry) (last : Option Entry) → option_map (λ (e : Entry). e.event) (last_from last party history) ≡ Some (DrawTable id)
    → (option_map (λ (e : Entry). e.event) last ≡ Some (DrawTable id)) ⊎ (drew_table party history id ≡ true)
last_mine party id [] last e = inl e
last_mine party id (entry ∷ history) last e = by (party_eq party entry.party) refl (last_mine party id history (Some entry)) (last_mine party id history last) e
  where
    draws : (event : Event) → Some event ≡ Some (DrawTable id) → draws_table id event ≡ true
    draws (DrawTable other) same = (Decides-eqb id other).1 (number same)
      where
        number : Some (DrawTable other) ≡ Some (DrawTable id) → id ≡ other
        number same = cc same
    draws event same = absurd (cc same)

    head : (own : Bool) → party_eq party entry.party ≡ own → own ≡ true → (Some entry.event ≡ Some (DrawTable id)) ⊎ (drew_table party history id ≡ true)
        → (option_map (λ (e : Entry). e.event) last ≡ Some (DrawTable id)) ⊎ (drew_table party (entry ∷ history) id ≡ true)
    head own f is (inl same) = inr (or_left (party_eq party entry.party && draws_table id entry.event) (drew_table party history id) (rw (f, is) (draws entry.event same)))
    head own f is (inr there) = inr (or_right (party_eq party entry.party && draws_table id entry.event) (drew_table party history id) there)

    further : (option_map (λ (e : Entry). e.event) last ≡ Some (DrawTable id)) ⊎ (drew_table party history id ≡ true) → (option_map (λ (e : Entry). e.event) last ≡ Some (DrawTable id)) ⊎ (drew_table party (entry ∷ history) id ≡ true)
    further (inl same) = inl same
    further (inr there) = inr (or_right (party_eq party entry.party && draws_table id entry.event) (drew_table party history id) there)

    by : (own : Bool) → party_eq party entry.party ≡ own
        → (option_map (λ (e : Entry). e.event) (last_from (Some entry) party history) ≡ Some (DrawTable id) → (Some entry.event ≡ Some (DrawTable id)) ⊎ (drew_table party history id ≡ true))
        → (option_map (λ (e : Entry). e.event) (last_from last party history) ≡ Some (DrawTable id) → (option_map (λ (e : Entry). e.event) last ≡ Some (DrawTable id)) ⊎ (drew_table party history id ≡ true))
        → option_map (λ (e : Entry). e.event) (last_from (cond own (Some entry) last) party history) ≡ Some (DrawTable id)
        → (option_map (λ (e : Entry). e.event) last ≡ Some (DrawTable id)) ⊎ (drew_table party (entry ∷ history) id ≡ true)
    by true f own other e = head true f refl (own e)
    by false f own other e = further (other e)

last_drew : (party : Party) (id : ℕ) (history : List Entry) → last_event party history ≡ Some (DrawTable id) → drew_table party history id ≡ true
last_drew party id history e = by (last_mine party id history None e)
  where
    by : (None ≡ Some (DrawTable id)) ⊎ (drew_table party history id ≡ true) → drew_table party history id ≡ true
    by (inl never) = absurd (cc never)
    by (inr there) = there

-- ---- the last drawn id

-- The party's last call drew the id, and no table has it yet.
pub record IsLastDrawn (party : Party) (world : World) (id : ℕ) : Type 0 where
  pub last : last_event party world.store.history ≡ Some (DrawTable id)
  pub new : is_among world.store.tables id ≡ false

-- The call puts no table under this id.
abbrev PutsOther : Exchange → ℕ → Type 0
PutsOther (PutsTable table rows) id = table ≢ id
PutsOther x id = ⊤

-- No table has an id after an exchange that puts none under it, if none had it before.
among_on : (x : Exchange) (store : Store) (id : ℕ) → PutsOther x id → is_among store.tables id ≡ false → is_among (after_exchange x store).tables id ≡ false
among_on (Plain event) store id other new = new
among_on (DrawsJob moment) store id other new = new
among_on (DrawsTable moment) store id other new = new
among_on (PutsTable table rows) store id other new = any_push_no (λ (held : ℕ × List Row). held.0 == id) store.tables (table, rows) (test (table == id) refl) ∙ new
  where
    test : (b : Bool) → (table == id) ≡ b → b ≡ false
    test true e = absurd (other ((Decides-eqb table id).0 e))
    test false e = refl
among_on (PutsManifest version change value) store id other new = by (version == store.manifest.version)
  where
    by : (b : Bool) → is_among (cond b (record store { manifest = record value { version = version + 1 } }) store).tables id ≡ false
    by true = new
    by false = new
among_on (PutsRecords version change epoch jobs) store id other new = by (version == records_version store.records)
  where
    by : (b : Bool) → is_among (cond b (record store { records = Some (record { version = version + 1; epoch = epoch; jobs = jobs }) }) store).tables id ≡ false
    by true = new
    by false = new
among_on ListsTables store id other new = new
among_on (DeletesTable table) store id other new = new

among_called : (line : ℕ) (party : Party) (x : Exchange) (strike : Strike) (store : Store) (id : ℕ) → PutsOther x id → is_among store.tables id ≡ false → is_among (store_after_call line party x strike store).tables id ≡ false
among_called line party x None store id other new = among_on x store id other new
among_called line party x (Some true) store id other new = among_on x store id other new
among_called line party x (Some false) store id other new = new

-- Another party puts no table under the id.
others_put_other : (merge : Operator) (party caller : Party) (world : World) (x : Exchange) (id : ℕ) → caller ≢ party → Keeps merge world → Lawful merge caller world x → IsLastDrawn party world id → PutsOther x id
others_put_other merge party caller world (PutsTable table rows) id other kept lawful drawn = λ same. by same lawful.named
  where
    by : table ≡ id → MayName caller world.store.history table → ⊥
    by same (inl drew) = other (one_table caller party id world.store.history kept.facts.draws.tables_rise (last_drew caller id world.store.history (drew ∙ ap (λ n. Some (DrawTable n)) same)) (last_drew party id world.store.history drawn.last))
    by same (inr flush) = let low = flush.2 in drawn_is_high merge world id kept (last_drawn party id world.store.history drawn.last) (omega (arith, same, low))
others_put_other merge party caller world (Plain event) id other kept lawful drawn = tt
others_put_other merge party caller world (DrawsJob moment) id other kept lawful drawn = tt
others_put_other merge party caller world (DrawsTable moment) id other kept lawful drawn = tt
others_put_other merge party caller world (PutsManifest version change value) id other kept lawful drawn = tt
others_put_other merge party caller world (PutsRecords version change epoch jobs) id other kept lawful drawn = tt
others_put_other merge party caller world ListsTables id other kept lawful drawn = tt
others_put_other merge party caller world (DeletesTable table) id other kept lawful drawn = tt

differs : (a b : Party) → b ≢ a → party_eq a b ≡ false
differs a b other = by (party_eq a b) refl
  where
    by : (c : Bool) → party_eq a b ≡ c → c ≡ false
    by true e = absurd (other (sym (party_same a b e)))
    by false e = refl

-- The last drawn id stays new after a call of another party.
pub last_drawn_on : (who : Caller) (id : ℕ) (world : World) (call : RivalCall) → Keeps who.merge world → IsRival who world call → IsLastDrawn who.party world id → IsLastDrawn who.party (after_rival call world) id
last_drawn_on who id world call kept rival one = record {
  last = ap (λ (history : List Entry). last_event who.party history) (call_history call.line call.party call.exchange call.strike world.store)
      ∙ ap (option_map (λ (e : Entry). e.event)) (last_other who.party world.store.history (entry_by call.line call.party call.exchange call.strike world.store) None (differs who.party call.party rival.other)) ∙ one.last;
  new = among_called call.line call.party call.exchange call.strike world.store id (others_put_other who.merge who.party call.party world call.exchange id rival.other kept rival.lawful one) one.new;
}

-- The last drawn id stays new whatever others do.
pub rivals_last_drawn : (who : Caller) (id : ℕ) (old new : World) → CallsKeep who.merge → Keeps who.merge old → Rivals who old new → IsLastDrawn who.party old id → IsLastDrawn who.party new id
rivals_last_drawn who id old new keep kept rivals h = rivals_hold who (λ world. IsLastDrawn who.party world id) keep (last_drawn_on who id) old new kept rivals h

-- ---- a draw

-- All names that flushes have used are below the ids that are drawn for tables.
last_name_small : (history : List Entry) → last_name history < drawn_base
last_name_small [] = omega arith
last_name_small (entry ∷ history) = let first = small entry.event in let rest = last_name_small history in omega (arith, first, rest)
  where
    small : (event : Event) → name_in event < drawn_base
    small (PutTable table rows) = by (nat_lt table drawn_base) refl
      where
        by : (b : Bool) → nat_lt table drawn_base ≡ b → cond b table 0 < drawn_base
        by true e = ltb-true table drawn_base e
        by false e = omega arith
    small event = omega arith

is_high : (moment n : ℕ) → drawn_base + n ≤ table_id_of moment n
is_high moment n = omega arith

pub last_own : (party : Party) (history : List Entry) (entry : Entry) (last : Option Entry) → party_eq party entry.party ≡ true → last_from last party (history ++ entry ∷ []) ≡ Some entry
last_own party [] entry last own = ap (λ b. cond b (Some entry) last) own
last_own party (first ∷ history) entry last own = last_own party history entry (cond (party_eq party first.party) (Some first) last) own

-- The next id is none of those that the history knows.
next_unknown : (merge : Operator) (world : World) (moment id : ℕ) → Keeps merge world → DrawFits world.store → id ≡ next_table_id moment world.store → IsKnownTable world.store.history id → ⊥
next_unknown merge world moment id kept short same (inl drawn) =
    let few = kept.facts.draws.few in
    let low = (all_at _ (drawn_tables world.store.history) id kept.facts.draws.tables_counted (contains_in (drawn_tables world.store.history) id drawn)).1 in
    let next = number moment (drawn_base + (world.store.tables_drawn + 1)) (omega (arith, few, short)) in
    let equal = ap number_of same in
    omega (arith, low, next, equal)
next_unknown merge world moment id kept short same (inr low) =
    let small = last_name_small world.store.history in
    let high = is_high moment (world.store.tables_drawn + 1) in
    omega (arith, same, low, small, high)

-- No table that was put has the next id.
next_not_among : (merge : Operator) (world : World) (moment : ℕ) → Keeps merge world → DrawFits world.store → is_among world.store.tables (next_table_id moment world.store) ≡ false
next_not_among merge world moment kept short = by (is_among world.store.tables (next_table_id moment world.store)) refl
  where
    at : Passes (λ (table : ℕ × List Row). table.0 == next_table_id moment world.store) world.store.tables → ⊥
    at found = next_unknown merge world moment found.element.0 kept short ((Decides-eqb found.element.0 (next_table_id moment world.store)).0 found.passes)
        (all_at (λ (table : ℕ × List Row). IsKnownTable world.store.history table.0) world.store.tables found.element kept.facts.puts.known found.there)

    by : (b : Bool) → is_among world.store.tables (next_table_id moment world.store) ≡ b → b ≡ false
    by true e = absurd (at (any_element (λ (table : ℕ × List Row). table.0 == next_table_id moment world.store) world.store.tables e))
    by false e = refl

-- No node holds a table with the next id.
pub next_is_new : (merge : Operator) (world : World) (moment : ℕ) → Keeps merge world → DrawFits world.store → IsKnownPiece world.store.history (next_table_id moment world.store) → ⊥
next_is_new merge world moment kept short (inl drawn) = next_unknown merge world moment (next_table_id moment world.store) kept short refl (inl drawn)
next_is_new merge world moment kept short (inr flushed) = refused (was_flushed world.store.history (next_table_id moment world.store)) (not_flushed merge (next_table_id moment world.store) world kept (next_not_among merge world moment kept short)) flushed

-- After a draw the drawn id is new.
pub drawn_last : (who : Caller) (world : World) (moment : ℕ) → Keeps who.merge world → DrawFits world.store → IsLastDrawn who.party (after_call who.line who.party (DrawsTable moment) None world) (next_table_id moment world.store)
drawn_last who world moment kept short = record {
  last = ap (option_map (λ (e : Entry). e.event)) (last_own who.party world.store.history (entry_by who.line who.party (DrawsTable moment) None world.store) None (party_itself who.party));
  new = next_not_among who.merge world moment kept short;
}
