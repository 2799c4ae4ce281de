-- What a new leader makes of two votes, entry by entry.
use Rattle.std.proofs.Common.{◌≡◌, ℕ, zero, suc, ◌+◌, ◌-◌, ◌<◌, List, [], ◌∷◌, ◌++◌, map, length, get_or, arith, refl, sym, ap, subst, ◌∙◌}
use Rattle.std.proofs.lemmas.List.FromFn.{map-range_with_len_more, get_or-map-range_with_len, length-map-range_with_len}
use Rattle.std.specs.List.{range_with_len}
use Rattle.std.specs.FinMap
use Rattle.pf_entry.specs.Maps.{Map, Numbers}
use Rattle.pf_entry.specs.Merging.{merged_first, merged_op, merged_entry, merged_entries}
use Rattle.pf_entry.specs.declared.ops.Op.{Op}
use Rattle.pf_entry.specs.declared.entries.Entry.{Entry}
use Rattle.pf_entry.specs.declared.entries.Named.{Named}
use Rattle.pf_entry.specs.declared.entries.VoteLog.{VoteLog}
use Rattle.pf_protocol.specs.Leading.{acknowledged, all_acknowledged}
use Rattle.pf_server_tables.specs.AckTables.{AckTable}
use Rattle.pf_server_candidate.specs.Merging.{TableHasBegun}

-- acknowledgements
all_more : (acks : Map Numbers) (me : ℕ) (slots : List ℕ) (slot : ℕ) → all_acknowledged acks me (slots ++ slot ∷ []) ≡ acknowledged (all_acknowledged acks me slots) me slot
unfolding all_acknowledged
all_more acks me [] slot = refl
all_more acks me (x ∷ xs) slot = all_more (acknowledged acks me x) me xs slot

range_more : (n a : ℕ) → range_with_len a (n + 1) ≡ range_with_len a n ++ (a + n) ∷ []
range_more zero a = let one : zero + 1 ≡ suc zero = omega arith in let same : a ≡ a + zero = omega arith in ap (range_with_len a) one ∙ ap (λ k. k ∷ []) same
range_more (suc n) a =
    let more : suc n + 1 ≡ suc (n + 1) = omega arith in
    let last : (a + 1) + n ≡ a + suc n = omega arith in
    ap (range_with_len a) more ∙ ap (λ ks. a ∷ ks) (range_more n (a + 1) ∙ ap (λ k. range_with_len (a + 1) n ++ k ∷ []) last)

pub none_begun : (me base : ℕ) (table : AckTable) → table.base ≡ base → table.count ≡ 0 → table.acks ≡ FinMap.empty → TableHasBegun me base 0 table
unfolding all_acknowledged
none_begun me base table at count acks = record { base_is = at; count_is = count; acks = acks }

pub one_begun : (me base n : ℕ) (table new : AckTable) → TableHasBegun me base n table → new.base ≡ table.base → new.count ≡ table.count + 1 → new.acks ≡ acknowledged table.acks me (table.base + table.count + 1) → TableHasBegun me base (n + 1) new
one_begun me base n table new h at count acks = record {
  base_is = at ∙ h.base_is;
  count_is = count ∙ ap (λ k. k + 1) h.count_is;
  acks =
      let slot : table.base + table.count + 1 ≡ suc base + n = omega (arith, h.base_is, h.count_is) in
      acks ∙ ap (acknowledged table.acks me) slot ∙ ap (λ m. acknowledged m me (suc base + n)) h.acks
      ∙ sym (all_more FinMap.empty me (range_with_len (suc base) n) (suc base + n)) ∙ ap (all_acknowledged FinMap.empty me) (sym (range_more n (suc base)));
}

-- entries
module _ (term base : ℕ) (own vote : VoteLog) where
  -- how far the walk along the ops has come
  pub record IsMade (n slot : ℕ) (entries : List Entry) : Type 0 where
    pub at : slot ≡ base + n
    pub are : entries ≡ map (merged_entry term base own vote) (range_with_len (suc base) n)

  pub none_made : (entries : List Entry) → entries ≡ [] → IsMade 0 base entries
  none_made entries none = record { at = omega arith; are = none }

  one_entry : (slot first : ℕ) (look : List Named) (op : Op) → first ≡ merged_first base own vote → look ≡ [] → op ≡ merged_op base own vote slot
      → record { slot = slot; term = term; first = first; look = look; op = op } ≡ merged_entry term base own vote slot
  unfolding merged_entry
  one_entry slot first look op is none taken = λ i. record { slot = slot; term = term; first = is i; look = none i; op = taken i }

  module _ (ops : List Op) (first : ℕ) (is : first ≡ merged_first base own vote) (are : ops ≡ map (merged_op base own vote) (range_with_len (suc base) (first - suc base))) where
    pub few_ops : length ops ≡ first - suc base
    few_ops = ap length are ∙ length-map-range_with_len (merged_op base own vote) (suc base) (first - suc base)

    op_at : (n : ℕ) (op : Op) → n < length ops → op ≡ get_or ops n op → op ≡ merged_op base own vote (suc base + n)
    op_at n op lt at =
        at ∙ ap (λ xs. get_or xs n op) are
        ∙ get_or-map-range_with_len (merged_op base own vote) (suc base) (first - suc base) n (suc base + n) op (subst (λ k. n < k) few_ops lt) refl

    pub one_made : (n slot : ℕ) (entries new : List Entry) (look : List Named) (op : Op) → IsMade n slot entries → n < length ops → op ≡ get_or ops n op → look ≡ []
        → new ≡ entries ++ record { slot = slot + 1; term = term; first = first; look = look; op = op } ∷ [] → IsMade (n + 1) (slot + 1) new
    one_made n slot entries new look op made lt at none pushed =
        let here : suc base + n ≡ slot + 1 = omega (arith, made.at) in
        record {
          at = omega (arith, made.at);
          are =
              pushed ∙ ap (λ xs. xs ++ record { slot = slot + 1; term = term; first = first; look = look; op = op } ∷ []) made.are
              ∙ ap (λ e. map (merged_entry term base own vote) (range_with_len (suc base) n) ++ e ∷ []) (one_entry (slot + 1) first look op is none (op_at n op lt at ∙ ap (merged_op base own vote) here))
              ∙ sym (map-range_with_len_more (merged_entry term base own vote) (suc base) n (slot + 1) here);
        }

    pub slot_fits : (n slot : ℕ) (entries : List Entry) → IsMade n slot entries → n < length ops → slot + 1 < first
    slot_fits n slot entries made lt = omega (arith, made.at, few_ops, lt)

    pub all_made : (n slot : ℕ) (entries : List Entry) → IsMade n slot entries → n ≡ length ops → entries ≡ merged_entries term base own vote
    unfolding merged_entries
    all_made n slot entries made end =
        made.are ∙ ap (λ k. map (merged_entry term base own vote) (range_with_len (suc base) k)) (end ∙ few_ops) ∙ ap (λ k. map (merged_entry term base own vote) (range_with_len (suc base) (k - suc base))) is
