-- Rows by their cases.
use Rattle.std.proofs.Common.{List, ◌≡◌, ℕ, ◌+◌, ◌<◌, ◌≤◌, Bool, true, false, ◌||◌, [], ◌∷◌, Option, nat_lt, nat_le, arith, refl, sym, ap, subst, ◌∙◌, if◌then◌else◌}
use Rattle.std.proofs.lemmas.Bool.{cond-true, cond-false}
use Rattle.std.proofs.lemmas.Bool.Decides.{nat_tests}
use Rattle.std.specs.FinMap
use Rattle.pf_entry.specs.Records.{Durable, stored, has_term, holds, vote_of}
use Rattle.pf_entry.specs.declared.entries.Entry.{Entry}
use Rattle.pf_entry.specs.declared.packets.Body.TheVariants.{Vote, ProbeOk}
use Rattle.pf_entry.specs.declared.entries.VoteLog.{VoteLog}
use Rattle.pf_entry.specs.Maps.{Map, Numbers}
use Rattle.pf_entry.specs.Ops.{Sector}
use Rattle.pf_protocol.specs.Servers.{Server, upto}
use Rattle.pf_protocol.specs.Outcomes.{Outcome, sends, nothing, raise_term}
use Rattle.pf_protocol.specs.Following.{meets_term, ack, nack, accepted, on_accept, on_request_vote, on_nack, on_probe, installed, on_image}
use Rattle.pf_protocol.proofs.ForRows.{base_below_upto}
use Rattle.pf_server_memory.specs.declared.running.Running.{Running}
use Rattle.pf_server_memory.specs.Packets.{packet}
use Rattle.pf_server_memory.specs.Standing.{server_of, setup_of, state_in_memory, IsCached}
use Rattle.pf_server_follower.specs.declared.accepts.AcceptCase.{AcceptCase}
use Rattle.pf_server_follower.specs.declared.accepts.AcceptCase.TheVariants.{Stale, Below, Beyond, Held, New}
use Rattle.pf_server_follower.specs.Accepting.{case_at}
use Rattle.pf_server_follower.proofs.HigherTerms.{meets_own, meets_higher}

-- Accept
abbrev pub accept_outcome : AcceptCase → Server → (from : ℕ) → Entry → Outcome
accept_outcome Stale s from e = nack s from
accept_outcome Below s from e = ack (meets_term s e.term) from e.slot
accept_outcome Beyond s from e = nothing s
accept_outcome Held s from e = ack s from e.slot
accept_outcome New s from e = ack (accepted s e) from e.slot

pick : (stale below beyond held : Bool) (s : Server) (from : ℕ) (e : Entry)
    → (if stale then accept_outcome Stale s from e else (if below then accept_outcome Below s from e else (if beyond then accept_outcome Beyond s from e else (if held then accept_outcome Held s from e else accept_outcome New s from e))))
    ≡ accept_outcome (if stale then Stale else (if below then Below else (if beyond then Beyond else (if held then Held else New)))) s from e
pick true below beyond held s from e = refl
pick false true beyond held s from e = refl
pick false false true held s from e = refl
pick false false false true s from e = refl
pick false false false false s from e = refl

pub accept_by_case : (d : Durable) (me : Running) (from : ℕ) (e : Entry) (case now : AcceptCase) → IsCached d me → case ≡ case_at me.term me.log.base (FinMap.get me.log.entries e.slot) e → case ≡ now
    → on_accept (setup_of me) (server_of d me) from e ≡ accept_outcome now (server_of d me) from e
unfolding on_accept server_of setup_of holds
accept_by_case d me from e case now cached is at =
    pick (nat_lt e.term d.term) (nat_le e.slot d.base) (nat_lt (d.base + 4096) e.slot) (has_term e.term (FinMap.get d.log e.slot)) (server_of d me) from e
    ∙ (λ i. accept_outcome (case_at (sym cached.term i) (sym cached.base i) (FinMap.get (sym cached.log i) e.slot) e) (server_of d me) from e)
    ∙ ap (λ k. accept_outcome k (server_of d me) from e) (sym is ∙ at)

abbrev pub IsNotStale : AcceptCase → Type 0
IsNotStale Stale = ⊥
IsNotStale _ = Unit {0}

not_stale : (stale below beyond held : Bool) (now : AcceptCase) → (if stale then Stale else (if below then Below else (if beyond then Beyond else (if held then Held else New)))) ≡ now → IsNotStale now → stale ≡ false
not_stale true below beyond held now is apart = absurd (subst IsNotStale (sym is) apart)
not_stale false below beyond held now is apart = refl

no_lower : (a b : ℕ) → nat_lt a b ≡ false → b ≤ a
no_lower a b is = grind (arith, nat_tests)

-- the entry's term is no lower
pub no_lower_at : (term base : ℕ) (there : Option Entry) (e : Entry) (case now : AcceptCase) → case ≡ case_at term base there e → case ≡ now → IsNotStale now → term ≤ e.term
no_lower_at term base there e case now is at apart =
    no_lower e.term term (not_stale (nat_lt e.term term) (nat_le e.slot base) (nat_lt (base + 4096) e.slot) (has_term e.term there) now (sym is ∙ at) apart)

higher : (a b : ℕ) → a < b → nat_lt a b ≡ true
higher a b lt = grind (arith, nat_tests)

not_higher : (a b : ℕ) → b ≤ a → nat_lt a b ≡ false
not_higher a b le = grind (arith, nat_tests)

-- Nack
pub nack_own : (d : Durable) (me : Running) (term : ℕ) → IsCached d me → term ≤ me.term → on_nack (server_of d me) term ≡ nothing (server_of d me)
unfolding on_nack
nack_own d me term cached low = ap nothing (meets_own d me term cached low)

pub nack_higher : (d : Durable) (me : Running) (term : ℕ) → IsCached d me → me.term < term → on_nack (server_of d me) term ≡ nothing (raise_term (server_of d me) term)
unfolding on_nack
nack_higher d me term cached high = ap nothing (meets_higher d me term cached high)

-- Probe
pub probe_stale : (d : Durable) (me : Running) (from term number : ℕ) → IsCached d me → term < me.term → on_probe (server_of d me) from term number ≡ nack (server_of d me) from
unfolding on_probe server_of
probe_stale d me from term number cached low = cond-true _ _ _ (higher term d.term (subst (λ n. term < n) cached.term low))

pub probe_told : (d : Durable) (me : Running) (from term number upto_here : ℕ) → IsCached d me → me.term ≤ term → upto_here ≡ upto (server_of d me)
    → on_probe (server_of d me) from term number ≡ sends (server_of d me) (packet me.number from term (ProbeOk number upto_here) ∷ [])
unfolding on_probe server_of
probe_told d me from term number upto_here cached high is =
    cond-false _ _ _ (not_higher term d.term (subst (λ n. n ≤ term) cached.term high)) ∙ (λ i. sends (server_of d me) (packet me.number from term (ProbeOk number (sym is i)) ∷ []))

-- RequestVote
no_less : (a b : ℕ) → a ≤ b → nat_le a b ≡ true
no_less a b le = grind (arith, nat_tests)

less : (a b : ℕ) → b < a → nat_le a b ≡ false
less a b lt = grind (arith, nat_tests)

or_true : (b : Bool) → (b || true) ≡ true
or_true true = refl
or_true false = refl

pub refuses_low : (term own base here : ℕ) → term ≤ own → (nat_le term own || nat_lt base here) ≡ true
refuses_low term own base here low = ap (λ b. b || nat_lt base here) (no_less term own low)

pub refuses_behind : (term own base there here : ℕ) → base < there → there ≡ here → (nat_le term own || nat_lt base here) ≡ true
refuses_behind term own base there here behind is = ap (λ b. nat_le term own || b) (higher base here (subst (λ n. base < n) is behind)) ∙ or_true (nat_le term own)

pub gives : (term own base there here : ℕ) → own < term → there ≤ base → there ≡ here → (nat_le term own || nat_lt base here) ≡ false
gives term own base there here high reached is = ap (λ b. b || nat_lt base here) (less term own high) ∙ not_higher base here (subst (λ n. n ≤ base) is reached)

pub vote_refused : (d : Durable) (me : Running) (from term base : ℕ) → IsCached d me → (nat_le term me.term || nat_lt base me.log.base) ≡ true → on_request_vote (server_of d me) from term base ≡ nack (server_of d me) from
unfolding on_request_vote server_of
vote_refused d me from term base cached not = cond-true _ _ _ (sym (λ i. nat_le term (cached.term i) || nat_lt base (cached.base i)) ∙ not)

pub vote_given : (d : Durable) (me : Running) (from term base : ℕ) (vote : VoteLog) → IsCached d me → (nat_le term me.term || nat_lt base me.log.base) ≡ false → vote ≡ vote_of (state_in_memory me)
    → on_request_vote (server_of d me) from term base ≡ sends (raise_term (server_of d me) term) (packet me.number from term (Vote vote) ∷ [])
unfolding on_request_vote server_of stored
vote_given d me from term base vote cached not is =
    cond-false _ _ _ (sym (λ i. nat_le term (cached.term i) || nat_lt base (cached.base i)) ∙ not)
    ∙ (λ i. sends (raise_term (server_of d me) term) (packet me.number from term (Vote (vote_here (sym cached.base i) (sym cached.starts i) (sym cached.log i))) ∷ []))
    ∙ ap (λ v. sends (raise_term (server_of d me) term) (packet me.number from term (Vote v) ∷ [])) (sym is)
  where
    vote_here : ℕ → Map ℕ → Map Entry → VoteLog
    vote_here base starts log = record { base = base; starts = starts; log = log }

-- Image
module _ (d : Durable) (me : Running) (from term base : ℕ) where
  pub image_stale : (applied : Numbers) (sectors : List Sector) → IsCached d me → term < me.term → on_image (server_of d me) from term base applied sectors ≡ nack (server_of d me) from
  unfolding on_image server_of
  image_stale applied sectors cached low = cond-true _ _ _ (higher term d.term (subst (λ n. term < n) cached.term low))

  pub image_behind : (u : ℕ) (applied : Numbers) (sectors : List Sector) → IsCached d me → me.term ≤ term → u ≡ upto (server_of d me) → base ≤ u
      → on_image (server_of d me) from term base applied sectors ≡ ack (meets_term (server_of d me) term) from base
  unfolding on_image server_of
  image_behind u applied sectors cached high is low =
      cond-false _ _ _ (not_higher term d.term (subst (λ n. n ≤ term) cached.term high)) ∙ cond-true _ _ _ (no_less base (upto (server_of d me)) (subst (λ n. base ≤ n) is low))

  pub image_ahead : (u : ℕ) (applied : Numbers) (sectors : List Sector) → IsCached d me → me.term ≤ term → u ≡ upto (server_of d me) → u < base
      → on_image (server_of d me) from term base applied sectors ≡ ack (installed (server_of d me) term base applied sectors) from base
  unfolding on_image server_of
  image_ahead u applied sectors cached high is over =
      cond-false _ _ _ (not_higher term d.term (subst (λ n. n ≤ term) cached.term high)) ∙ cond-false _ _ _ (less base (upto (server_of d me)) (subst (λ n. n < base) is over))

own_base : (d : Durable) (me : Running) → (server_of d me).durable.base ≡ d.base
unfolding server_of
own_base d me = refl

pub reached_by : (d : Durable) (me : Running) (base u : ℕ) → IsCached d me → u ≡ upto (server_of d me) → u < base → me.log.base ≤ base
reached_by d me base u cached is over = omega (arith, cached.base, own_base d me, base_below_upto (server_of d me), is, over)
