use Rattle.std.proofs.Common.{◌≡◌, ◌≢◌, ◌==◌, vec_len, ◌+◌, ◌<◌, ◌≤◌, [], ◌∷◌, ◌++◌, ℕ, List, length, get_or, take, inl, inr, refl, sym, ap, subst, ◌∙◌, arith, length-append}
use Rattle.std.specs.List.{AllZip}
use Rattle.std.specs.Option.{is_some}
use Rattle.std.proofs.lemmas.Bool.{cases_lt, false≢true}
use Rattle.std.proofs.lemmas.List.{get_or_default, take_all, take_more}
use Rattle.std.proofs.lemmas.Slice.Zip.{all_zipped_more}
use Rattle.pf_entry.specs.declared.records.Record.{Record}
use Rattle.pf_chunklog.specs.Records.{Raw}
use Rattle.pf_chunklog.proofs.Steps.{told}
use Rattle.pf_image.specs.Recovery.{KindIsInPlace, IsSpelled, SpellsRecord}
use Rattle.pf_image.proofs.SpelledRecords.{are_recoverable, in_place}
use Rattle.pf_image.proofs.recovery.read_recoverable.Goals as goal

pub loop-kind-preserved : goal.loop-kind-preserved
loop-kind-preserved c =
    let raws = c.args.raws.now in
    let m = length c.loop-kind.records.items in
    let raw : Raw = (c.in-Some.kind, c.in-Some.payload) in
    let below : m < length raws = omega (arith, c.in-Some.ensures.0, c.len-in-loop-kind.ensures) in
    let at : c.len-in-loop-kind.result ≡ m = omega (arith, c.len-in-loop-kind.ensures) in
    let here : raw ≡ get_or raws m raw =
    c.in-Some.ensures.1 ∙ ap (λ (k : ℕ). get_or raws k (0, [])) at ∙ get_or_default raws m (0, []) raw below in
    let spells : SpellsRecord c.args.format raw c.in-Some-2.record = told _ c.in-Some-2.record _ c.in-Some-2.is c.in_ok-record.ensures.some in
    let place : c.len-in-Some.result ≡ m = omega (arith, c.len-in-Some.ensures) in
    let placed : KindIsInPlace m c.in-Some.kind = subst (λ (k : ℕ). KindIsInPlace k c.in-Some.kind) place (c.is_in_place.ensures.0 c.if-not-is_in_place.false) in
    let more : length c.push.new.self.items ≡ m + 1 = omega (arith, ap length c.in_ok-push.ensures.items, length-append c.loop-kind.records.items (c.in-Some-2.record ∷ [])) in
    let taken : take (length c.push.new.self.items) raws ≡ take m raws ++ raw ∷ [] =
    ap (λ (n : ℕ). take n raws) more ∙ take_more raws m raw below ∙ ap (λ (r : Raw). take m raws ++ r ∷ []) (sym here) in
    record {
      within = omega (arith, more, below);
      spelled = subst (λ (l : List Raw). AllZip (SpellsRecord c.args.format) l c.push.new.self.items) (sym taken)
          (subst (λ (rs : List Record). AllZip (SpellsRecord c.args.format) (take m raws ++ raw ∷ []) rs) (sym c.in_ok-push.ensures.items)
          (all_zipped_more (SpellsRecord c.args.format) (take m raws) c.loop-kind.records.items raw c.in-Some-2.record c.loop-kind.invariant.spelled spells));
      placed = λ k d under. elim (cases_lt k m) [
        | inl before ↦ c.loop-kind.invariant.placed k d before
        | inr not_before ↦
            let same : m ≡ k = omega (arith, not_before, under, more) in
            let is : c.in-Some.kind ≡ (get_or raws k d).0 = ap (λ (r : Raw). r.0) (here ∙ get_or_default raws m raw d below ∙ ap (λ (n : ℕ). get_or raws n d) same) in
            subst (λ (n : ℕ). KindIsInPlace n (get_or raws k d).0) same (subst (λ (n : ℕ). KindIsInPlace m n) is placed)
      ];
    }

pub returns-clause-recoverable : goal.returns-clause-recoverable
returns-clause-recoverable c =
    let raws = c.args.raws.now in
    let m = length c.loop-kind.records.items in
    let past : length raws ≤ m = omega (arith, c.in_default.ensures, c.len-in-loop-kind.ensures) in
    let some : raws ≢ [] = λ none.
    let empty : vec_len c.loop-kind.records ≡ 0 = omega (arith, ap length none, c.loop-kind.invariant.within) in
    false≢true (c.if-is_empty.ensures ∙ ap (λ (n : ℕ). n == 0) empty) in
    let all : AllZip (SpellsRecord c.args.format) raws c.loop-kind.records.items = subst (λ (l : List Raw). AllZip (SpellsRecord c.args.format) l c.loop-kind.records.items) (take_all m raws past) c.loop-kind.invariant.spelled in (
      λ _. are_recoverable c.args.format raws c.loop-kind.records.items some all (λ k d below. c.loop-kind.invariant.placed k d (omega (arith, below, past))),
      λ _. refl,
    )

pub returns-in_default-2-clause-recoverable : goal.returns-in_default-2-clause-recoverable
returns-in_default-2-clause-recoverable c =
    let raws = c.args.raws.now in
    let k = c.len-in-loop-kind.result in (
      λ no. absurd (false≢true no),
      λ are. absurd (c.in_ok-record.ensures.none (ap is_some c.in_default-2.is) (subst (λ (raw : Raw). IsSpelled c.args.format raw) (sym c.in-Some.ensures.1) (in_place c.args.format raws are k (0, []) c.in-Some.ensures.0).1)),
    )
