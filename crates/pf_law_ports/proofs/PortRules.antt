-- The rule of ports goes on over one more submission, and over events of others.
use Rattle.std.proofs.Common.{◌≡◌, ◌≢◌, ℕ, ◌<◌, ◌≤◌, ◌⊎◌, inl, inr, List, [], ◌∷◌, ◌++◌, Option, Some, slice_get, arith, refl, sym, ap, subst, ◌∙◌}
use Rattle.std.proofs.lemmas.Option.{slice_get_within}
use Rattle.pf_protocol.specs.Servers.{Setup, Condition, Running}
use Rattle.pf_protocol.specs.Groups.{Whole, ending}
use Rattle.pf_protocol.specs.Histories.{History, IsPrefix, replay}
use Rattle.pf_protocol.specs.Ports.{Submission, submitting, IsTarget, WriteHasEnded, FollowsRule}
use Rattle.pf_protocol.proofs.ForMoments.{prefix_of}
use Rattle.pf_protocol.proofs.ForMoments.{whole_prefix}
use Rattle.pf_law_registers.proofs.AnswersKept.{acked_stays}
use Rattle.pf_group_network.specs.Shown.{ServesInTerm}
use Rattle.pf_group_network.proofs.Lists.{at_front, end_cases}

-- the term of a running server, 0 where none runs
abbrev pub term_in : Option Condition → ℕ
term_in (Some (Running s)) = s.durable.term
term_in _ = 0

-- the leader that a submission met has the term in which its server serves
pub target_in : (setup : Setup) (a : Submission) (term : ℕ) → ServesInTerm (replay setup a.before) a.server term → (x : IsTarget setup a) → x.server.durable.term ≡ term
target_in setup a term serves x = sym (ap term_in x.runs) ∙ ap term_in serves.runs ∙ serves.in_term

-- what has ended stays so
pub ended_later : (setup : Setup) (port : List Submission) (earlier now : History) (write : ℕ) → IsPrefix earlier now → WriteHasEnded setup port earlier write → WriteHasEnded setup port now write
ended_later setup port earlier now write p h = record {
  m = h.m;
  final = h.final;
  at = h.at;
  same = h.same;
  no_later = h.no_later;
  answered = record {
    target = h.answered.target;
    took_place = h.answered.took_place;
    k = h.answered.k;
    acked = h.answered.acked;
    at = acked_stays setup earlier now h.answered.k h.answered.acked p h.answered.at;
    in_term = h.answered.in_term;
    in_slot = h.answered.in_slot;
  };
}

-- after a submission of another write too
pub ended_more : (setup : Setup) (port : List Submission) (now : History) (write : ℕ) (a : Submission) → a.write ≢ write → WriteHasEnded setup port now write → WriteHasEnded setup (port ++ a ∷ []) now write
ended_more setup port now write a apart h = record {
  m = h.m;
  final = h.final;
  at = at_front port (a ∷ []) h.m h.final h.at;
  same = h.same;
  no_later = λ k b there is. elim (end_cases port a k b there) [
    | inl old ↦ h.no_later k b old is
    | inr new ↦ absurd (apart (ap (λ (z : Submission). z.write) new.1 ∙ is))
  ];
  answered = h.answered;
}

pub rule_later : (setup : Setup) (earlier now : History) (port : List Submission) → IsPrefix earlier now → FollowsRule setup earlier port → FollowsRule setup now port
rule_later setup earlier now port p rule = record {
  happened = λ k a at. prefix_of (a.before ++ submitting a ∷ []) earlier now (rule.happened k a at) p;
  in_order = rule.in_order;
  ascends = rule.ascends;
  no_lower = rule.no_lower;
  again = rule.again;
  waits = rule.waits;
}

-- two places of a list with one more: the first is an old one
both : {X : Type 0} → (xs : List X) (y : X) (j k : ℕ) (b c : X) → slice_get (xs ++ y ∷ []) j ≡ Some b → slice_get (xs ++ y ∷ []) k ≡ Some c → j < k → (slice_get xs j ≡ Some b) × ((slice_get xs k ≡ Some c) ⊎ (y ≡ c))
both xs y j k b c at there lt = elim (end_cases xs y k c there) [
  | inl old_k ↦ elim (end_cases xs y j b at) [
    | inl old_j ↦ (old_j, inl old_k)
    | inr new_j ↦ absurd (omega (arith, slice_get_within xs k c old_k, new_j.0, lt))
  ]
  | inr new_k ↦ elim (end_cases xs y j b at) [
    | inl old_j ↦ (old_j, inr new_k.1)
    | inr new_j ↦ absurd (omega (arith, new_k.0, new_j.0, lt))
  ]
]

-- one more submission, at the end of the history: of a write that is not below the others, in a term that is not below theirs, above it
-- where the same write was taken up, and once the earlier writes have ended
module _ (setup : Setup) (port : List Submission) (a : Submission)
    (rule : FollowsRule setup a.before port)
    (numbered : (k : ℕ) (b : Submission) → slice_get port k ≡ Some b → b.write ≤ a.write)
    (no_lower : (k : ℕ) (b : Submission) → slice_get port k ≡ Some b → (x : IsTarget setup b) (y : IsTarget setup a) → x.server.durable.term ≤ y.server.durable.term)
    (again : (k : ℕ) (b : Submission) → slice_get port k ≡ Some b → b.write ≡ a.write → (x : IsTarget setup b) (y : IsTarget setup a) → x.server.durable.term ≡ y.server.durable.term → ending b.answer ≢ Whole)
    (waits : (k : ℕ) (b : Submission) → slice_get port k ≡ Some b → b.write < a.write → WriteHasEnded setup port a.before b.write) where
  abbrev now : History
  now = a.before ++ submitting a ∷ []

  abbrev all : List Submission
  all = port ++ a ∷ []

  has_happened : (k : ℕ) (b : Submission) → slice_get all k ≡ Some b → IsPrefix (b.before ++ submitting b ∷ []) now
  has_happened k b at = elim (end_cases port a k b at) [
    | inl old ↦ prefix_of (b.before ++ submitting b ∷ []) a.before now (rule.happened k b old) (record { rest = submitting a ∷ []; whole = refl })
    | inr new ↦ subst (λ (z : Submission). IsPrefix (z.before ++ submitting z ∷ []) now) new.1 (whole_prefix now)
  ]

  all_wait : (j k : ℕ) (b c : Submission) → slice_get all j ≡ Some b → slice_get all k ≡ Some c → b.write < c.write → WriteHasEnded setup all c.before b.write
  all_wait j k b c at there less = elim (end_cases port a k c there) [
    | inl old_k ↦ elim (end_cases port a j b at) [
      | inl old_j ↦ ended_more setup port c.before b.write a (λ same. omega (arith, same, less, numbered k c old_k)) (rule.waits j k b c old_j old_k less)
      | inr new_j ↦ absurd (omega (arith, ap (λ (z : Submission). z.write) new_j.1, less, numbered k c old_k))
    ]
    | inr new_k ↦
        let same_k : a.write ≡ c.write = ap (λ (z : Submission). z.write) new_k.1 in
        elim (end_cases port a j b at) [
          | inl old_j ↦ subst (λ (z : Submission). WriteHasEnded setup all z.before b.write) new_k.1 (ended_more setup port a.before b.write a (λ same. omega (arith, same, less, same_k)) (waits j b old_j (omega (arith, less, same_k))))
          | inr new_j ↦ absurd (omega (arith, ap (λ (z : Submission). z.write) new_j.1, same_k, less))
        ]
  ]

  pub rule_more : FollowsRule setup now all
  rule_more = record {
    happened = has_happened;
    in_order = λ j k b c at there lt. let p = both port a j k b c at there lt in elim p.1 [
      | inl old ↦ rule.in_order j k b c p.0 old lt
      | inr new ↦ subst (λ (z : Submission). IsPrefix (b.before ++ submitting b ∷ []) z.before) new (rule.happened j b p.0)
    ];
    ascends = λ j k b c at there lt. let p = both port a j k b c at there lt in elim p.1 [
      | inl old ↦ rule.ascends j k b c p.0 old lt
      | inr new ↦ subst (λ (z : Submission). b.write ≤ z.write) new (numbered j b p.0)
    ];
    no_lower = λ j k b c at there lt x y. let p = both port a j k b c at there lt in elim p.1 [
      | inl old ↦ rule.no_lower j k b c p.0 old lt x y
      | inr new ↦ subst (λ (z : Submission). (t : IsTarget setup z) → x.server.durable.term ≤ t.server.durable.term) new (λ t. no_lower j b p.0 x t) y
    ];
    again = λ j k b c at there lt same x y terms. let p = both port a j k b c at there lt in elim p.1 [
      | inl old ↦ rule.again j k b c p.0 old lt same x y terms
      | inr new ↦ subst (λ (z : Submission). b.write ≡ z.write → (t : IsTarget setup z) → x.server.durable.term ≡ t.server.durable.term → ending b.answer ≢ Whole) new (λ its t equal. again j b p.0 its x t equal) same y terms
    ];
    waits = all_wait;
  }
