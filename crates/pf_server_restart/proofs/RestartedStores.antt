-- What a store has after a restart.
use Rattle.std.proofs.Common.{◌≡◌, ◌⊎◌, inl, inr, ℕ, false, List, [], ◌∷◌, refl, sym, ap, subst, ◌∙◌, Result, Err}
use Rattle.std.proofs.lemmas.Bool.{false≢true}
use Rattle.pf_entry.specs.Lists.{Every}
use Rattle.pf_entry.specs.Records.{Durable, recovered, stored}
use Rattle.pf_entry.specs.declared.records.Record.{Record}
use Rattle.pf_entry.specs.declared.records.Record.TheVariants.{Image as ImageRecord, Term as TermRecord, Entry as EntryRecord, Merged as MergedRecord}
use Rattle.pf_server_store.specs.Stores.{BeginsWithImage, RecordsStandFor, blank, is_image, state_of_records}
use Rattle.pf_server_store.specs.declared.found.Found.{Found}
use Rattle.pf_protocol.specs.Saving.{renewed}
use Rattle.pf_protocol.specs.Servers.{Setup}
use Rattle.pf_server_restart.specs.Beginning.{MayBegin, WasBegun}
use Rattle.pf_server_restart.specs.declared.faults.RestartFault.{RestartFault}
use Rattle.pf_server_restart.specs.declared.faults.RestartFault.TheVariants.{SaveHalted}
use Rattle.pf_server_restart.specs.declared.reading.HalfReading.{HalfReading}

-- no later record changes the format
same_format : (r : Record) (d : Durable) → is_image r ≡ false → (stored d r).format ≡ d.format
unfolding stored
same_format (ImageRecord generation term vote applied sectors) d later = absurd (false≢true (sym later))
same_format (TermRecord term) d later = refl
same_format (EntryRecord e) d later = refl
same_format (MergedRecord term first es) d later = refl

format_stays : (rs : List Record) (d : Durable) → Every (λ r. is_image r ≡ false) rs → (recovered d rs).format ≡ d.format
format_stays [] d later = refl
format_stays (r ∷ rs) d later = format_stays rs (stored d r) later.1 ∙ same_format r d later.0

half_format : (format : ℕ) (rs : List Record) → BeginsWithImage rs → (state_of_records format rs).format ≡ format
half_format format [] begins = absurd begins
half_format format (image ∷ rest) begins = format_stays rest (record (stored blank image) { format = format }) begins.1

pub found_format : (found : Found) (d : Durable) → RecordsStandFor found d → found.format ≡ d.format
found_format found d stands = sym (half_format found.format found.records.items stands.image) ∙ ap (λ (x : Durable). x.format) stands.state

-- what is found is one state
pub one_state : (found : Found) (d e : Durable) → RecordsStandFor found d → RecordsStandFor found e → d ≡ e
one_state found d e stands also = sym stands.state ∙ also.state

pub may_either : (setup : Setup) (before after d : Durable) → (d ≡ before) ⊎ (d ≡ after) → MayBegin setup before → MayBegin setup after → MayBegin setup d
may_either setup before after d (inl is) first second = subst (MayBegin setup) (sym is) first
may_either setup before after d (inr is) first second = subst (MayBegin setup) (sym is) second

-- the state that was read, which is one of the two, was saved anew or not
pub begun_anew : {S : Type 0} → (was : S → S → Durable → Durable → Type 0) (before after d : Durable) (old between new : S) → was old between before after → (d ≡ before) ⊎ (d ≡ after) → (new ≡ between) ⊎ was between new d (renewed d)
    → WasBegun was before after old new
begun_anew was before after d old between new read either (inl same) = record { between = between; read = read; saved = inl same }
begun_anew was before after d old between new read either (inr saved) = record { between = between; read = read; saved = inr (d, either, saved) }

-- an error that is passed on is the one that came
same_err : {T E : Type 0} → (x y : E) → ◌≡◌ {A = Result T E} (Err x) (Err y) → x ≡ y
same_err x y same = cc

pub passed_on : {T U E : Type 0} → (r : Result T E) (e came : E) → (y : E) × (r ≡ Err y) × (y ≡ came) → r ≡ Err e → ◌≡◌ {A = Result U E} (Err came) (Err e)
passed_on {T = T} r e came (y, is, same) gives = ap Err (sym same ∙ same_err {T = T} y e (sym is ∙ gives))

-- what a fault says that it had read
pub read_so : (reading read : HalfReading) (fault : RestartFault) → fault ≡ SaveHalted read → ◌≡◌ {A = Result (Unit {0}) RestartFault} (Err fault) (Err (SaveHalted reading)) → reading ≡ read
read_so reading read fault is came = cc
