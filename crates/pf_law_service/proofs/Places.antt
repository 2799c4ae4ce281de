-- Small facts: of a function but for one place, of the clients of mounts, and of what pends among deeds with one more.
use Rattle.std.proofs.Common.{◌≡◌, ℕ, zero, suc, ◌<◌, ◌≤◌, ◌⊎◌, ◌==◌, inl, inr, List, [], ◌∷◌, ◌++◌, length, map, take, Option, Some, slice_get, arith, refl, sym, ap, subst, ◌∙◌}
use Rattle.std.proofs.lemmas.Bool.{cases_eq, cond-false, cond-true, eq-eqb, ne_eqb}
use Rattle.std.proofs.lemmas.List.{length-append}
use Rattle.std.proofs.lemmas.Option.{none-some, same_Some, slice_get_within}
use Rattle.pf_base.specs.declared.asks.Ask.{Ask}
use Rattle.pf_protocol.specs.Histories.{History, IsPrefix}
use Rattle.pf_protocol.proofs.ForMoments.{whole_prefix}
use Rattle.pf_law_positions.specs.Deeds.{Deed, DeedIsPending, PortAsk, PortReply, Takes}
use Rattle.pf_law_ports.specs.pf_group_network.proofs.Lists.{at_end, at_front, end_cases}
use Rattle.pf_law_service.specs.Served.{IsClientOfAsk}
use Rattle.pf_law_service.specs.Services.{but}

-- A function but for one place

pub but_here : {A : Type 0} → (f : ℕ → A) (one : ℕ) (a : A) (k : ℕ) → k ≡ one → but f one a k ≡ a
but_here f one a k is = cond-true (k == one) a (f k) (eq-eqb k one is)

pub but_off : {A : Type 0} → (f : ℕ → A) (one : ℕ) (a : A) (k : ℕ) → (k ≡ one → ⊥) → but f one a k ≡ f k
but_off f one a k apart = cond-false (k == one) a (f k) (ne_eqb k one apart)

-- what holds at the place and elsewhere holds everywhere
pub but_each : {A : Type 0} → (P : A → Type 0) (f : ℕ → A) (one : ℕ) (a : A) (k : ℕ) → (k ≡ one → P a) → ((k ≡ one → ⊥) → P (f k)) → P (but f one a k)
but_each P f one a k here off = elim (cases_eq k one) [
  | inl is ↦ subst P (sym (but_here f one a k is)) (here is)
  | inr apart ↦ subst P (sym (but_off f one a k apart)) (off apart)
]

pub but_grows : (f : ℕ → History) (one : ℕ) (now : History) (k : ℕ) → IsPrefix (f one) now → IsPrefix (f k) (but f one now k)
but_grows f one now k more = but_each (IsPrefix (f k)) f one now k (λ is. subst (λ z. IsPrefix (f z) now) (sym is) more) (λ apart. whole_prefix (f k))

-- Clients

-- a client is one of one mount
pub same_mount : (m n client : ℕ) (ask its : Ask) → IsClientOfAsk m client ask → IsClientOfAsk n client its → m ≡ n
same_mount m n client ask its x y =
    let low = x.small in
    let its_low = y.small in
    elim x.is [
      | inl own ↦ elim y.is [
        | inl other ↦ omega (arith, own, other)
        | inr far ↦ let at = far.0 in absurd (omega (arith, own, at, low))
      ]
      | inr far ↦ elim y.is [
        | inl other ↦ let at = far.0 in absurd (omega (arith, at, other, its_low))
        | inr other ↦ let at = far.0 in let its_at = other.0 in omega (arith, at, its_at)
      ]
    ]

-- none is number 33
pub no_client : (m client : ℕ) (ask : Ask) → IsClientOfAsk m client ask → client ≡ 33 → ⊥
no_client m client ask x is =
    let low = x.small in
    elim x.is [
      | inl own ↦ omega (arith, own, low, is)
      | inr far ↦ let at = far.0 in omega (arith, at, low, is)
    ]

-- Lists

pub front : {X : Type 0} → (xs ys : List X) (k : ℕ) → k < length xs → slice_get (xs ++ ys) k ≡ slice_get xs k
front [] ys k low = absurd (omega (arith, low))
front (x ∷ xs) ys zero low = refl
front (x ∷ xs) ys (suc k) low = front xs ys k (omega (arith, low))

pub one_longer : {X : Type 0} → (xs : List X) (x : X) → length (xs ++ x ∷ []) ≡ suc (length xs)
one_longer xs x = omega (arith, length-append xs (x ∷ []))

pub map_get : {X Y : Type 0} → (f : X → Y) (xs : List X) (k : ℕ) (x : X) → slice_get xs k ≡ Some x → slice_get (map f xs) k ≡ Some (f x)
map_get f [] k x at = absurd (none-some x at)
map_get f (z ∷ zs) zero x at = ap (λ y. Some (f y)) (same_Some z x at)
map_get f (z ∷ zs) (suc k) x at = map_get f zs k x at

-- a part of a history is one of each that goes on from it
pub part_stays : {X : Type 0} → (xs ys : List X) (n : ℕ) → n ≤ length xs → take n (xs ++ ys) ≡ take n xs
part_stays xs ys zero low = refl
part_stays [] ys (suc n) low = absurd (omega (arith, low))
part_stays (x ∷ xs) ys (suc n) low = ap (λ zs. x ∷ zs) (part_stays xs ys n (omega (arith, low)))

pub prefix_long : (a b : History) → IsPrefix a b → length a ≤ length b
prefix_long a b p = let whole = ap length p.whole in omega (arith, whole, length-append a p.rest)

pub prefix_get : (a b : History) → IsPrefix a b → (k : ℕ) → k < length a → slice_get b k ≡ slice_get a k
prefix_get a b p k low = ap (λ (h : History). slice_get h k) (sym p.whole) ∙ front a p.rest k low

pub prefix_part : (a b : History) → IsPrefix a b → (n : ℕ) → n ≤ length a → take n b ≡ take n a
prefix_part a b p n low = ap (λ (h : History). take n h) (sym p.whole) ∙ part_stays a p.rest n low

-- What pends

-- the deed is no turn of the client
abbrev pub IsQuiet : (client : ℕ) → Deed → Type 0
IsQuiet client d = (its : Option PortReply) (next : Option PortAsk) → d ≡ Takes client its next → ⊥

pub pending_longer : (ds more : List Deed) (client asked moment : ℕ) (ask : PortAsk) → moment ≤ length ds → DeedIsPending ds client asked moment ask → DeedIsPending (ds ++ more) client asked moment ask
pending_longer ds more client asked moment ask low p = record {
  reply = p.reply;
  at = at_front ds more asked (Takes client p.reply (Some ask)) p.at;
  earlier = p.earlier;
  no_other = λ k its next after before there. p.no_other k its next after before (sym (front ds more k (omega (arith, before, low))) ∙ there);
}

pub pending_shorter : (ds more : List Deed) (client asked moment : ℕ) (ask : PortAsk) → moment ≤ length ds → DeedIsPending (ds ++ more) client asked moment ask → DeedIsPending ds client asked moment ask
pending_shorter ds more client asked moment ask low p = record {
  reply = p.reply;
  at = let earlier = p.earlier in sym (front ds more asked (omega (arith, earlier, low))) ∙ p.at;
  earlier = p.earlier;
  no_other = λ k its next after before there. p.no_other k its next after before (at_front ds more k (Takes client its next) there);
}

-- it goes on to pend where the next deed is no turn of the client
pub pending_next : (ds : List Deed) (d : Deed) (client asked : ℕ) (ask : PortAsk) → IsQuiet client d → DeedIsPending ds client asked (length ds) ask → DeedIsPending (ds ++ d ∷ []) client asked (length (ds ++ d ∷ [])) ask
pending_next ds d client asked ask quiet p = record {
  reply = p.reply;
  at = at_front ds (d ∷ []) asked (Takes client p.reply (Some ask)) p.at;
  earlier = let earlier = p.earlier in omega (arith, earlier, one_longer ds d);
  no_other = λ k its next after before there. elim (end_cases ds d k (Takes client its next) there) [
    | inl old ↦ p.no_other k its next after (slice_get_within ds k (Takes client its next) old) old
    | inr new ↦ quiet its next new.1
  ];
}

-- an ask that the last deed puts
pub pending_now : (ds : List Deed) (client : ℕ) (reply : Option PortReply) (ask : PortAsk) → DeedIsPending (ds ++ Takes client reply (Some ask) ∷ []) client (length ds) (length (ds ++ Takes client reply (Some ask) ∷ [])) ask
pending_now ds client reply ask = record {
  reply = reply;
  at = at_end ds (Takes client reply (Some ask));
  earlier = omega (arith, one_longer ds (Takes client reply (Some ask)));
  no_other = λ k its next after before there. omega (arith, after, before, one_longer ds (Takes client reply (Some ask)));
}

-- what pends after one more deed was put by it, or pended before, and the deed is no turn of the client
pub record IsNow (d : Deed) (client : ℕ) (ask : PortAsk) : Type 0 where
  pub reply : Option PortReply
  pub is : d ≡ Takes client reply (Some ask)

pub record IsOlder (ds : List Deed) (d : Deed) (client asked : ℕ) (ask : PortAsk) : Type 0 where
  pub pending : DeedIsPending ds client asked (length ds) ask
  pub quiet : IsQuiet client d

pub pending_cases : (ds : List Deed) (d : Deed) (client asked : ℕ) (ask : PortAsk) → DeedIsPending (ds ++ d ∷ []) client asked (length (ds ++ d ∷ [])) ask → ((asked ≡ length ds) × IsNow d client ask) ⊎ IsOlder ds d client asked ask
pending_cases ds d client asked ask p = elim (end_cases ds d asked (Takes client p.reply (Some ask)) p.at) [
  | inl old ↦
      let within = slice_get_within ds asked (Takes client p.reply (Some ask)) old in
      inr (record {
        pending = record {
          reply = p.reply;
          at = old;
          earlier = within;
          no_other = λ k its next after before there. p.no_other k its next after (omega (arith, before, one_longer ds d)) (at_front ds (d ∷ []) k (Takes client its next) there);
        };
        quiet = λ its next is. p.no_other (length ds) its next within (omega (arith, one_longer ds d)) (at_end ds d ∙ ap (λ z. Some z) is);
      })
  | inr new ↦ inl (new.0, record { reply = p.reply; is = new.1 })
]
