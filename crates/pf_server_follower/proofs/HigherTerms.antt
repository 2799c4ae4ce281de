-- A server that follows: a higher term, an entry.
use Rattle.std.proofs.Common.{◌≡◌, ℕ, ◌<◌, ◌≤◌, true, false, [], nat_lt, arith, refl, sym, ap, subst, ◌∙◌}
use Rattle.std.specs.FinMap
use Rattle.pf_entry.specs.Records.{Durable, stored, add_start, put_entry}
use Rattle.pf_entry.specs.declared.entries.Entry.{Entry}
use Rattle.pf_entry.specs.declared.records.Record.TheVariants.{Term as TermRecord, Entry as EntryRecord}
use Rattle.pf_server_tables.specs.StartTables.{StartRoom}
use Rattle.pf_election.proofs.ConfirmedCounts.{few_confirmed}
use Rattle.pf_protocol.specs.Outcomes.{raise_term}
use Rattle.std.proofs.lemmas.Bool.{cond-true, cond-false}
use Rattle.std.proofs.lemmas.Bool.Decides.{nat_tests}
use Rattle.pf_protocol.specs.Following.{accepted, meets_term}
use Rattle.pf_server_store.specs.Stores.{StoreModel}
use Rattle.pf_server_memory.specs.declared.running.Running.{Running}
use Rattle.pf_server_memory.specs.declared.running.Role.TheVariants.{Follower as FollowerHere}
use Rattle.pf_server_memory.specs.Standing.{server_of, setup_of, IsCached, Stands}
use Rattle.pf_server_memory.proofs.StepEnds.{IsAdded, IsFollowed, stands_after}
use Rattle.pf_server_memory.specs.Turns.{IsAfter}

-- a higher term
abbrev pub with_term : Running → ℕ → Running
with_term me term = record me { term = term; role = FollowerHere; reads = [] }

pub raised_added : (d : Durable) (me : Running) (term : ℕ) → IsAdded d (TermRecord term) (raise_term (server_of d me) term).durable
unfolding server_of stored
raised_added d me term = record { is = refl; used = refl; format = refl }

raised_here : (d : Durable) (me : Running) (term : ℕ) → IsCached d me → IsFollowed me (with_term me term) (raise_term (server_of d me) term)
unfolding server_of setup_of stored
raised_here d me term cached = record {
  server_is = refl;
  setup_same = refl;
  cached = record {
    number = cached.number;
    term = refl;
    generation = cached.generation;
    base = cached.base;
    starts = cached.starts;
    log = cached.log;
    format = cached.format;
    prefix = cached.prefix;
    role = tt;
    jobs = cached.jobs;
    places = cached.places;
    rooms = cached.rooms;
    near = cached.near;
    replies = omega (arith, few_confirmed []);
  };
}

pub raised_followed : (d : Durable) (me me' : Running) (term : ℕ) → IsCached d me → me' ≡ with_term me term → IsFollowed me me' (raise_term (server_of d me) term)
raised_followed d me me' term cached is = subst (λ m. IsFollowed me m (raise_term (server_of d me) term)) (sym is) (raised_here d me term cached)

lower : (a b : ℕ) → a < b → nat_lt a b ≡ true
lower a b lt = grind (arith, nat_tests)

not_lower : (a b : ℕ) → b ≤ a → nat_lt a b ≡ false
not_lower a b le = grind (arith, nat_tests)

-- a term from outside
pub meets_higher : (d : Durable) (me : Running) (term : ℕ) → IsCached d me → me.term < term → meets_term (server_of d me) term ≡ raise_term (server_of d me) term
unfolding server_of
meets_higher d me term cached high = cond-true _ _ _ (lower d.term term (subst (λ n. n < term) cached.term high))

pub meets_own : (d : Durable) (me : Running) (term : ℕ) → IsCached d me → term ≤ me.term → meets_term (server_of d me) term ≡ server_of d me
unfolding server_of
meets_own d me term cached low = cond-false _ _ _ (not_lower d.term term (subst (λ n. term ≤ n) cached.term low))

-- another entry
abbrev pub with_entry : Running → Entry → StartRoom → Running
with_entry me e starts = record me {
  term = e.term;
  role = FollowerHere;
  reads = [];
  starts = starts;
  log = record me.log { entries = FinMap.insert me.log.entries e.slot e };
}

pub kept_added : (d : Durable) (me : Running) (e : Entry) → IsAdded d (EntryRecord e) (accepted (server_of d me) e).durable
unfolding server_of stored accepted
kept_added d me e = record { is = refl; used = refl; format = refl }

kept_here : (d : Durable) (me : Running) (e : Entry) (starts : StartRoom) → IsCached d me → starts.starts ≡ add_start me.starts.starts e.term e.first → IsFollowed me (with_entry me e starts) (accepted (server_of d me) e)
unfolding server_of setup_of stored accepted put_entry
kept_here d me e starts cached begun = record {
  server_is = refl;
  setup_same = refl;
  cached = record {
    number = cached.number;
    term = refl;
    generation = cached.generation;
    base = cached.base;
    starts = begun ∙ ap (λ m. add_start m e.term e.first) cached.starts;
    log = ap (λ m. FinMap.insert m e.slot e) cached.log;
    format = cached.format;
    prefix = cached.prefix;
    role = tt;
    jobs = cached.jobs;
    places = cached.places;
    rooms = cached.rooms;
    near = cached.near;
    replies = omega (arith, few_confirmed []);
  };
}

pub kept_followed : (d : Durable) (me me' : Running) (e : Entry) (starts : StartRoom) → IsCached d me → starts.starts ≡ add_start me.starts.starts e.term e.first → me' ≡ with_entry me e starts
    → IsFollowed me me' (accepted (server_of d me) e)
kept_followed d me me' e starts cached begun is = subst (λ m. IsFollowed me m (accepted (server_of d me) e)) (sym is) (kept_here d me e starts cached begun)

-- more room for starts
pub roomy_server : (d : Durable) (me : Running) (starts : StartRoom) → server_of d (record me { starts = starts }) ≡ server_of d me
unfolding server_of
roomy_server d me starts = refl

pub roomy_setup : (me : Running) (starts : StartRoom) → setup_of (record me { starts = starts }) ≡ setup_of me
unfolding setup_of
roomy_setup me starts = refl

pub roomy_after : (d : Durable) (me : Running) (starts : StartRoom) → starts.starts ≡ me.starts.starts → IsCached d me → IsAfter d me (record me { starts = starts }) (server_of d me)
roomy_after d me starts same cached = record {
  server_is = roomy_server d me starts;
  setup_same = roomy_setup me starts;
  cached = record {
    number = cached.number;
    term = cached.term;
    generation = cached.generation;
    base = cached.base;
    starts = same ∙ cached.starts;
    log = cached.log;
    format = cached.format;
    prefix = cached.prefix;
    role = cached.role;
    jobs = cached.jobs;
    places = cached.places;
    rooms = cached.rooms;
    near = cached.near;
    replies = cached.replies;
  };
}

pub roomy_stands : {S : Type 0} (model : StoreModel S) (d : Durable) (store : S) (me : Running) (starts : StartRoom) → starts.starts ≡ me.starts.starts
    → Stands model d store me → Stands model d store (record me { starts = starts })
roomy_stands model d store me starts same stands = stands_after model d store me (record me { starts = starts }) stands (server_of d me) (roomy_after d me starts same stands.cached)
