-- What later calls leave of a store: the objects are the same if they have the same version, and the history grows.
use Rattle.std.proofs.Common.{◌≡◌, refl, sym, ◌∙◌, ap, subst, ℕ, ◌+◌, ◌≤◌, List, [], ◌∷◌, ◌++◌, cond, Bool, true, false, Option, Some, None, arith}
use Rattle.std.specs.Prelude.{◌==◌}
use Rattle.std.proofs.lemmas.Bool.Decides.{Decides-eqb}
use Rattle.std.proofs.lemmas.List.{append-nil, append_assoc}
use Rattle.fleet_model.specs.History.{Party, Answer, Lost, Entry}
use Rattle.fleet_model.specs.Store.{Manifest, Records, Store}
use Rattle.fleet_model.specs.Exchanges.{Exchange, Plain, DrawsJob, DrawsTable, PutsTable, PutsManifest, PutsRecords, ListsTables, DeletesTable, records_version, after_exchange, event_of, answer_of, stands_or_lost}
use Rattle.step_model.specs.Past.{World}
use Rattle.step_model.specs.Rivals.{Caller, Strike, RivalCall, RivalsFrom, Rivals, store_after_call, after_call, after_rival}

-- The new manifest has a later version, or it is the old one.
pub record ManifestLater (old new : Manifest) : Type 0 where
  pub rises : old.version ≤ new.version
  pub same : old.version ≡ new.version → new ≡ old

-- The new records have a later version, or they are the old ones.
pub record RecordsLater (old new : Option Records) : Type 0 where
  pub rises : records_version old ≤ records_version new
  pub same : records_version old ≡ records_version new → new ≡ old

manifest_itself : (m : Manifest) → ManifestLater m m
manifest_itself m = record { rises = omega arith; same = λ e. refl }

manifest_then : (a b c : Manifest) → ManifestLater a b → ManifestLater b c → ManifestLater a c
manifest_then a b c first second =
    let low = first.rises in
    let high = second.rises in
    record {
      rises = omega (arith, low, high);
      same = λ e. second.same (omega (arith, low, high, e)) ∙ first.same (omega (arith, low, high, e));
    }

records_itself : (r : Option Records) → RecordsLater r r
records_itself r = record { rises = omega arith; same = λ e. refl }

records_then : (a b c : Option Records) → RecordsLater a b → RecordsLater b c → RecordsLater a c
records_then a b c first second =
    let low = first.rises in
    let high = second.rises in
    record {
      rises = omega (arith, low, high);
      same = λ e. second.same (omega (arith, low, high, e)) ∙ first.same (omega (arith, low, high, e));
    }

-- ---- one call

-- An exchange leaves the manifest as it is or puts one of a later version.
performed_manifest : (x : Exchange) (store : Store) → ManifestLater store.manifest (after_exchange x store).manifest
performed_manifest (Plain event) store = manifest_itself store.manifest
performed_manifest (DrawsJob moment) store = manifest_itself store.manifest
performed_manifest (DrawsTable moment) store = manifest_itself store.manifest
performed_manifest (PutsTable table rows) store = manifest_itself store.manifest
performed_manifest (PutsManifest version change value) store = by (version == store.manifest.version) refl
  where
    by : (b : Bool) → (version == store.manifest.version) ≡ b → ManifestLater store.manifest (cond b (record store { manifest = record value { version = version + 1 } }) store).manifest
    by true e = let same = (Decides-eqb version store.manifest.version).0 e in record { rises = omega (arith, same); same = λ equal. absurd (omega (arith, same, equal)) }
    by false e = manifest_itself store.manifest
performed_manifest (PutsRecords version change epoch jobs) store = by (version == records_version store.records)
  where
    by : (b : Bool) → ManifestLater store.manifest (cond b (record store { records = Some (record { version = version + 1; epoch = epoch; jobs = jobs }) }) store).manifest
    by true = manifest_itself store.manifest
    by false = manifest_itself store.manifest
performed_manifest ListsTables store = manifest_itself store.manifest
performed_manifest (DeletesTable table) store = manifest_itself store.manifest

-- An exchange leaves the records as they are or puts some of a later version.
performed_records : (x : Exchange) (store : Store) → RecordsLater store.records (after_exchange x store).records
performed_records (Plain event) store = records_itself store.records
performed_records (DrawsJob moment) store = records_itself store.records
performed_records (DrawsTable moment) store = records_itself store.records
performed_records (PutsTable table rows) store = records_itself store.records
performed_records (PutsManifest version change value) store = by (version == store.manifest.version)
  where
    by : (b : Bool) → RecordsLater store.records (cond b (record store { manifest = record value { version = version + 1 } }) store).records
    by true = records_itself store.records
    by false = records_itself store.records
performed_records (PutsRecords version change epoch jobs) store = by (version == records_version store.records) refl
  where
    by : (b : Bool) → (version == records_version store.records) ≡ b → RecordsLater store.records (cond b (record store { records = Some (record { version = version + 1; epoch = epoch; jobs = jobs }) }) store).records
    by true e = let same = (Decides-eqb version (records_version store.records)).0 e in record { rises = omega (arith, same); same = λ equal. absurd (omega (arith, same, equal)) }
    by false e = records_itself store.records
performed_records ListsTables store = records_itself store.records
performed_records (DeletesTable table) store = records_itself store.records

-- An exchange leaves the history as it is, since the entry of a call is added by itself.
performed_history : (x : Exchange) (store : Store) → (after_exchange x store).history ≡ store.history
performed_history (Plain event) store = refl
performed_history (DrawsJob moment) store = refl
performed_history (DrawsTable moment) store = refl
performed_history (PutsTable table rows) store = refl
performed_history (PutsManifest version change value) store = by (version == store.manifest.version)
  where
    by : (b : Bool) → (cond b (record store { manifest = record value { version = version + 1 } }) store).history ≡ store.history
    by true = refl
    by false = refl
performed_history (PutsRecords version change epoch jobs) store = by (version == records_version store.records)
  where
    by : (b : Bool) → (cond b (record store { records = Some (record { version = version + 1; epoch = epoch; jobs = jobs }) }) store).history ≡ store.history
    by true = refl
    by false = refl
performed_history ListsTables store = refl
performed_history (DeletesTable table) store = refl

-- The answer to a call that a fault may strike.
abbrev pub answer_by : Exchange → Strike → Store → Answer
answer_by x None store = answer_of x store
answer_by x (Some true) store = stands_or_lost (answer_of x store)
answer_by x (Some false) store = Lost

-- The entry of a call.
abbrev pub entry_by : ℕ → Party → Exchange → Strike → Store → Entry
entry_by line party x strike store = record { line = line; party = party; event = event_of x store; answer = answer_by x strike store }

pub call_manifest : (line : ℕ) (party : Party) (x : Exchange) (strike : Strike) (store : Store) → ManifestLater store.manifest (store_after_call line party x strike store).manifest
call_manifest line party x None store = performed_manifest x store
call_manifest line party x (Some true) store = performed_manifest x store
call_manifest line party x (Some false) store = manifest_itself store.manifest

pub call_records : (line : ℕ) (party : Party) (x : Exchange) (strike : Strike) (store : Store) → RecordsLater store.records (store_after_call line party x strike store).records
call_records line party x None store = performed_records x store
call_records line party x (Some true) store = performed_records x store
call_records line party x (Some false) store = records_itself store.records

pub call_history : (line : ℕ) (party : Party) (x : Exchange) (strike : Strike) (store : Store) → (store_after_call line party x strike store).history ≡ store.history ++ entry_by line party x strike store ∷ []
call_history line party x None store = ap (λ (h : List Entry). h ++ entry_by line party x None store ∷ []) (performed_history x store)
call_history line party x (Some true) store = ap (λ (h : List Entry). h ++ entry_by line party x (Some true) store ∷ []) (performed_history x store)
call_history line party x (Some false) store = refl

-- ---- calls one after the other

-- The new world is later than the old one.
pub record Later (old new : World) : Type 0 where
  pub manifest : ManifestLater old.store.manifest new.store.manifest
  pub records : RecordsLater old.store.records new.store.records
  pub more : List Entry
  pub history : new.store.history ≡ old.store.history ++ more

pub later_itself : (world : World) → Later world world
later_itself world = record { manifest = manifest_itself world.store.manifest; records = records_itself world.store.records; more = []; history = sym (append-nil world.store.history) }

pub later_then : (a b c : World) → Later a b → Later b c → Later a c
later_then a b c first second = record {
  manifest = manifest_then a.store.manifest b.store.manifest c.store.manifest first.manifest second.manifest;
  records = records_then a.store.records b.store.records c.store.records first.records second.records;
  more = first.more ++ second.more;
  history = second.history ∙ ap (λ (h : List Entry). h ++ second.more) first.history ∙ append_assoc a.store.history first.more second.more;
}

pub later_by : (line : ℕ) (party : Party) (x : Exchange) (strike : Strike) (world : World) → Later world (after_call line party x strike world)
later_by line party x strike world = record {
  manifest = call_manifest line party x strike world.store;
  records = call_records line party x strike world.store;
  more = entry_by line party x strike world.store ∷ [];
  history = call_history line party x strike world.store;
}

rivals_from_later : (who : Caller) (calls : List RivalCall) (old new : World) → RivalsFrom who calls old new → Later old new
rivals_from_later who [] old new same = subst (Later old) same (later_itself old)
rivals_from_later who (call ∷ calls) old new lead =
    later_then old (after_rival call old) new (later_by call.line call.party call.exchange call.strike old) (rivals_from_later who calls (after_rival call old) new lead.1)

pub rivals_later : (who : Caller) (old new : World) → Rivals who old new → Later old new
rivals_later who old new rivals = rivals_from_later who rivals.calls old new rivals.lead

-- The world after a call of one's own and calls of others.
pub later_met : (who : Caller) (x : Exchange) (old met next : World) → Later old met → Rivals who (after_call who.line who.party x None met) next → Later old next
later_met who x old met next before rivals =
    later_then old met next before (later_then met (after_call who.line who.party x None met) next (later_by who.line who.party x None met) (rivals_later who (after_call who.line who.party x None met) next rivals))
