use Rattle.std.proofs.Common.{◌≡◌, ◌-◌, ◌≤◌, [], ◌∷◌, ◌++◌, length, length-append, All, ap, subst, ◌∙◌, arith, refl, ℕ, List}
use Rattle.std.proofs.lemmas.List.{get_or-append_right, get_or_append_left}
use Rattle.std.proofs.lemmas.List.Elements.{All-from_get_or, All-get_or}
use Rattle.std.proofs.Math.ListN.{get_or}
use Rattle.pf_server_memory.specs.Replying.{Replying}
use Rattle.pf_server_memory.proofs.replies.Replies.answer.Goals as goal

abbrev ForEight : ℕ → Type 0
ForEight room = 8 ≤ room

last_of : {X : Type 0} (P : X → Type 0) (xs : List X) (x : X) → All P (xs ++ x ∷ []) → P x
last_of P xs x all = let here : length xs - length xs ≡ 0 = omega arith in let low : length xs ≤ length xs = omega arith in subst P (get_or-append_right xs (x ∷ []) (length xs) (length xs) x refl low ∙ ap (λ n. get_or (x ∷ []) n x) here) (All-get_or P (xs ++ x ∷ []) (length xs) x (omega (arith, length-append xs (x ∷ []))) all)

others_of : {X : Type 0} (P : X → Type 0) (xs : List X) (x : X) → All P (xs ++ x ∷ []) → All P xs
others_of P xs x all = All-from_get_or P xs x (λ i lt. subst P (get_or_append_left xs (x ∷ []) x i lt) (All-get_or P (xs ++ x ∷ []) i x (omega (arith, lt, length-append xs (x ∷ []))) all))

pub fill-sectors-requires-clause-room : goal.fill-sectors-requires-clause-room
fill-sectors-requires-clause-room c = last_of ForEight c.pop.new.self.items c.in-Some.room (subst (All ForEight) c.in-Some.ensures.items c.self.invariant.each)

pub invariant_of-self : goal.invariant_of-self
invariant_of-self c = record {
  each = others_of ForEight c.pop.new.self.items c.in-Some.room (subst (All ForEight) c.in-Some.ensures.items c.self.invariant.each);
  places = omega (arith, c.self.invariant.places, c.put_last.ensures.len, c.put_last.ensures.capacity, ap length c.in-Some.ensures.items, length-append c.pop.new.self.items (c.in-Some.room ∷ []));
}

pub returns-in-Some : goal.returns-in-Some
returns-in-Some c =
    let rooms : length c.pop.new.self.items ≡ c.args.self.now.rooms - 1 = omega (arith, ap (λ (r : Replying). r.rooms) c.self.view_is, ap length c.in-Some.ensures.items, length-append c.pop.new.self.items (c.in-Some.room ∷ [])) in
    let before = ap (λ (r : Replying). r.answers) c.self.view_is in
    λ i. record {
      rooms = rooms i;
      answers = (c.put_last.ensures.items ∙ (λ j. before j ++ (c.args.number, c.fill-sectors.ensures j) ∷ [])) i;
    }
