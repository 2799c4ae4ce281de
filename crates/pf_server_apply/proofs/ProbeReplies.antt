-- A leader hears of another server.
use Rattle.std.proofs.Common.{◌≡◌, ◌≢◌, ℕ, ◌≤◌, ◌==◌, Bool, true, false, inl, inr, if◌then◌else◌, List, [], ◌∷◌, map, arith, refl, sym, ap, ◌∙◌}
use Rattle.std.proofs.lemmas.Bool.{cases_Bool, cond-true, cond-false, eq-eqb, ne_eqb}
use Rattle.pf_entry.specs.Records.{Durable}
use Rattle.pf_election.specs.Reads.{confirm_by_number as confirm_here, confirmed_in}
use Rattle.pf_election.specs.declared.probes.ProbedRead.{ProbedRead as ReadHere}
use Rattle.pf_protocol.specs.Servers.{Server}
use Rattle.pf_protocol.specs.Leading.{confirm, on_probe_ok}
use Rattle.pf_protocol.specs.Outcomes.{nothing}
use Rattle.pf_server_memory.specs.declared.running.Role.{Role}
use Rattle.pf_server_memory.specs.declared.running.Role.TheVariants.{Follower, Candidate, Merging, Serving}
use Rattle.pf_server_memory.specs.declared.running.Running.{Running}
use Rattle.pf_server_memory.specs.Replying.{Replying}
use Rattle.pf_server_memory.specs.Standing.{read_in_memory, role_in_memory, server_of, setup_of, IsCached, IsRoleKept}
use Rattle.pf_server_apply.specs.Probing.{probe_heard, is_serving_here, knowing}
use Rattle.pf_server_memory.specs.Turns.{IsAfter}

confirmed_one : (number : ℕ) (r : ReadHere) → read_in_memory (confirm_here number r) ≡ confirm number (read_in_memory r)
confirmed_one number r =
    elim (cases_Bool (r.number == number)) [
      | inl same ↦ ap read_in_memory (cond-true (r.number == number) _ _ same) ∙ sym (cond-true (r.number == number) _ _ same)
      | inr apart ↦ ap read_in_memory (cond-false (r.number == number) _ _ apart) ∙ sym (cond-false (r.number == number) _ _ apart)
    ]

confirmed_all : (number : ℕ) (xs : List ReadHere) → map read_in_memory (map (confirm_here number) xs) ≡ map (confirm number) (map read_in_memory xs)
confirmed_all number [] = refl
confirmed_all number (x ∷ xs) = λ i. confirmed_one number x i ∷ confirmed_all number xs i

kept_role : (n from upto : ℕ) (role : Role) → IsRoleKept n role → IsRoleKept n (knowing role from upto)
kept_role n from upto Follower k = k
kept_role n from upto (Candidate c) k = k
kept_role n from upto (Merging l) k = k
kept_role n from upto (Serving l) k = record { counted = k.counted; low = k.low; high = k.high; heard = k.heard }

few_enough : (b : Bool) (number rooms : ℕ) (xs : List ReadHere) → confirmed_in xs ≤ rooms → confirmed_in (map (confirm_here number) xs) ≤ rooms → confirmed_in (if b then map (confirm_here number) xs else xs) ≤ rooms
few_enough true number rooms xs before after = after
few_enough false number rooms xs before after = before

module _ (d : Durable) (me : Running) (from number upto : ℕ) where
  abbrev as_role : Role → Server
  as_role role = record (server_of d me) { role = role_in_memory (knowing role from upto); reads = map read_in_memory (if is_serving_here role then map (confirm_here number) me.reads else me.reads) }

  by_role : (role : Role) → me.role ≡ role → (term : ℕ) → term ≡ d.term → on_probe_ok (server_of d me) from term number upto (role_in_memory role) ≡ nothing (server_of d (probe_heard me from number upto))
  unfolding on_probe_ok server_of
  by_role Follower is term same = (λ i. nothing (record (server_of d me) { role = role_in_memory (is i) })) ∙ ap (λ r. nothing (as_role r)) (sym is)
  by_role (Candidate c) is term same = (λ i. nothing (record (server_of d me) { role = role_in_memory (is i) })) ∙ ap (λ r. nothing (as_role r)) (sym is)
  by_role (Merging l) is term same = (λ i. nothing (record (server_of d me) { role = role_in_memory (is i) })) ∙ ap (λ r. nothing (as_role r)) (sym is)
  by_role (Serving l) is term same =
      cond-true _ _ _ (eq-eqb term d.term same)
      ∙ (λ i. nothing (record (server_of d me) { role = role_in_memory (knowing (Serving l) from upto); reads = sym (confirmed_all number me.reads) i }))
      ∙ ap (λ r. nothing (as_role r)) (sym is)

  pub heard_is : (term : ℕ) → term ≡ d.term → on_probe_ok (server_of d me) from term number upto (server_of d me).role ≡ nothing (server_of d (probe_heard me from number upto))
  unfolding server_of
  heard_is term same = by_role me.role refl term same

  unheard : (term : ℕ) (role : Role) → term ≢ d.term → on_probe_ok (server_of d me) from term number upto (role_in_memory role) ≡ nothing (server_of d me)
  unfolding on_probe_ok server_of
  unheard term Follower apart = refl
  unheard term (Candidate c) apart = refl
  unheard term (Merging l) apart = refl
  unheard term (Serving l) apart = cond-false _ _ _ (ne_eqb term d.term apart)

  pub unheard_is : (term : ℕ) → term ≢ d.term → on_probe_ok (server_of d me) from term number upto (server_of d me).role ≡ nothing (server_of d me)
  unfolding server_of
  unheard_is term apart = unheard term me.role apart

  -- with memory for the answers of what is confirmed then
  pub heard_after : (replies : Replying) → me.replies.rooms ≤ replies.rooms → confirmed_in (map (confirm_here number) me.reads) ≤ replies.rooms → IsCached d me
      → (let near : Running = record me { replies = replies } in IsAfter d me (probe_heard near from number upto) (server_of d (probe_heard me from number upto)))
  unfolding server_of setup_of
  heard_after replies more enough cached = record {
    server_is = refl;
    setup_same = refl;
    cached = record {
      number = cached.number;
      term = cached.term;
      generation = cached.generation;
      base = cached.base;
      starts = cached.starts;
      log = cached.log;
      format = cached.format;
      prefix = cached.prefix;
      role = kept_role me.number from upto me.role cached.role;
      jobs = cached.jobs;
      places = cached.places;
      rooms = cached.rooms;
      near = cached.near;
      replies = few_enough (is_serving_here me.role) number replies.rooms me.reads (omega (arith, cached.replies, more)) enough;
    };
  }

  -- with more memory, and else as before
  pub unheard_after : (replies : Replying) → me.replies.rooms ≤ replies.rooms → IsCached d me → (let near : Running = record me { replies = replies } in IsAfter d me near (server_of d me))
  unfolding server_of setup_of
  unheard_after replies more cached = record {
    server_is = refl;
    setup_same = refl;
    cached = record {
      number = cached.number;
      term = cached.term;
      generation = cached.generation;
      base = cached.base;
      starts = cached.starts;
      log = cached.log;
      format = cached.format;
      prefix = cached.prefix;
      role = cached.role;
      jobs = cached.jobs;
      places = cached.places;
      rooms = cached.rooms;
      near = cached.near;
      replies = omega (arith, cached.replies, more);
    };
  }

  pub durable_is : (new : Running) → (server_of d new).durable ≡ d
  unfolding server_of
  durable_is new = refl
