-- What has begun, what has ended and what file data have come, in two parts of what was told.
use Rattle.std.proofs.Common.{◌≡◌, ◌⊎◌, inl, inr, ℕ, ◌==◌, if◌then◌else◌, List, [], ◌∷◌, ◌++◌, Option, None, refl, sym, ap, ◌∙◌, append-nil}
use Rattle.std.specs.List.{cons_option}
use Rattle.std.specs.Option.{option_to_list}
use Rattle.std.proofs.lemmas.Bool.{eqb-true}
use Rattle.std.proofs.lemmas.List.{append_assoc}
use Rattle.std.proofs.lemmas.Option.{none-some}
use Rattle.pf_base.specs.declared.asks.Ask.{Ask}
use Rattle.pf_entry.proofs.Cases.{by_test}
use Rattle.pf_volume.specs.Volumes.{Extent}
use Rattle.pf_tree.specs.Calls.{FileCall}
use Rattle.pf_law_plans.specs.Exchanges.{Exchange}
use Rattle.pf_journal.specs.declared.layouts.Layout.{Layout}
use Rattle.pf_mount.specs.Mounts.{MountIs}
use Rattle.pf_law_calls.specs.Answering.{next_by}
use Rattle.pf_law_calls.specs.Exchanges.{exchanged, pends_in}
use Rattle.pf_law_calls.specs.Since.{called, pends, pends_from, since_after}
use Rattle.pf_law_calls.specs.Lives.{Asks, Begins, Hears, Input, Life, MountTold, all_opened, lived, lives, lives_from}
use Rattle.pf_law_calls.specs.Trees.{call_begun, call_in_input, calls_of}
use Rattle.pf_law_files.specs.Calls.{data_from, data_in, done_by, done_calls, done_from}

-- Calls that begin

begun_by : (input : Input) → (call_in_input input ≡ None) ⊎ ((call : FileCall) × (input ≡ Begins call))
begun_by (Begins call) = inr (call, refl)
begun_by (Asks port) = inl refl
begun_by (Hears port reply) = inl refl

-- what was told is that a call of mount n begins, or not
is_begun : (n : ℕ) (t : MountTold) → (call_begun n t ≡ None) ⊎ ((call : FileCall) × (t ≡ record { mount = n; input = Begins call }))
is_begun n t =
    by_test (n == t.mount) (λ b. ((if b then call_in_input t.input else None) ≡ None) ⊎ ((call : FileCall) × (t ≡ record { mount = n; input = Begins call })))
    (λ own. elim (begun_by t.input) [
      | inl none ↦ inl none
      | inr is ↦
          let of : (k : ℕ) (input : Input) → MountTold = λ k input. record { mount = k; input = input } in
          inr (is.0, ap (λ k. of k t.input) (sym (eqb-true n t.mount own)) ∙ ap (of n) is.1)
    ])
    (λ _. inl refl)

-- Mount n has no call, or its first one begins here
pub first_call : (told : List MountTold) (n : ℕ) → (calls_of told n ≡ []) ⊎ ((before : List MountTold) × (call : FileCall) × (after : List MountTold) × (told ≡ before ++ record { mount = n; input = Begins call } ∷ after))
first_call [] n = inl refl
first_call (t ∷ told) n = elim (is_begun n t) [
  | inr is ↦ inr ([], is.0, told, ap (λ (u : MountTold). u ∷ told) is.1)
  | inl none ↦ elim (first_call told n) [
    | inl rest ↦ inl (ap (λ o. cons_option o (calls_of told n)) none ∙ rest)
    | inr found ↦ inr (t ∷ found.0, found.1, found.2, ap (λ us. t ∷ us) found.3)
  ]
]

-- what was told begins all of one beginning, or goes on behind one thing more
pub split_at : (first rest before : List MountTold) (t : MountTold) (after : List MountTold) → first ++ rest ≡ before ++ t ∷ after
    → ((more : List MountTold) × (before ≡ first ++ more)) ⊎ ((more : List MountTold) × (first ≡ (before ++ t ∷ []) ++ more))
split_at [] rest before t after same = inl (before, refl)
split_at (u ∷ first) rest [] t after same =
    let here : u ≡ t = cc in
    inr (first, ap (λ (x : MountTold). x ∷ first) here)
split_at (u ∷ first) rest (w ∷ before) t after same =
    let here : u ≡ w = cc in
    let behind : first ++ rest ≡ before ++ t ∷ after = cc in
    elim (split_at first rest before t after behind) [
      | inl is ↦ inl (is.0, ap (λ (x : MountTold). x ∷ before) (sym here) ∙ ap (λ us. u ∷ us) is.1)
      | inr is ↦ inr (is.0, ap (λ (x : MountTold). x ∷ first) here ∙ ap (λ us. w ∷ us) is.1)
    ]

-- An input with which no call begins

pub called_still : (x : MountIs) (input : Input) → call_in_input input ≡ None → called x input ≡ x.files.pending
called_still x (Begins call) none = absurd (none-some call (sym none))
called_still x (Asks port) none = refl
called_still x (Hears port reply) none = refl

pub since_still : (x : MountIs) (last : Option Ask) (its : List Exchange) (input : Input) → call_in_input input ≡ None → since_after x last its input ≡ its ++ exchanged x last input
since_still x last its (Begins call) none = absurd (none-some call (sym none))
since_still x last its (Asks port) none = sym (append-nil its)
since_still x last its (Hears port reply) none = refl

-- Calls that have ended

done_on : (ls : ℕ → Life) (xs ys : List MountTold) → done_from ls (xs ++ ys) ≡ done_from ls xs ++ done_from (lives_from ls xs) ys
done_on ls [] ys = refl
done_on ls (t ∷ xs) ys =
    let x = (ls t.mount).mount in
    let its = option_to_list (done_by (called x t.input) (next_by x t.input)) in
    ap (λ more. its ++ more) (done_on (lived ls t) xs ys) ∙ sym (append_assoc its (done_from (lived ls t) xs) (done_from (lives_from (lived ls t) xs) ys))

pub done_more : (layout : Layout) (v : Extent) (before : List MountTold) (t : MountTold)
    → (let x = (lives layout v before t.mount).mount in done_calls layout v (before ++ t ∷ []) ≡ done_calls layout v before ++ option_to_list (done_by (called x t.input) (next_by x t.input)))
done_more layout v before t =
    let x = (lives layout v before t.mount).mount in
    done_on (all_opened layout v) before (t ∷ []) ∙ ap (λ more. done_calls layout v before ++ more) (append-nil (option_to_list (done_by (called x t.input) (next_by x t.input))))

-- File data that came

abbrev lasts_from : (ℕ → Life) → (last : ℕ → Option Ask) → List MountTold → ℕ → Option Ask
lasts_from ls last [] = last
lasts_from ls last (t ∷ told) = lasts_from (lived ls t) (λ m. pends_in m (ls m).mount (last m) t) told

lasts_are : (ls : ℕ → Life) (last : ℕ → Option Ask) (told : List MountTold) (m : ℕ) → lasts_from ls last told m ≡ pends_from ls m (last m) told
lasts_are ls last [] m = refl
lasts_are ls last (t ∷ told) m = lasts_are (lived ls t) (λ n. pends_in n (ls n).mount (last n) t) told m

data_on : (ls : ℕ → Life) (last : ℕ → Option Ask) (xs ys : List MountTold) → data_from ls last (xs ++ ys) ≡ data_from ls last xs ++ data_from (lives_from ls xs) (lasts_from ls last xs) ys
data_on ls last [] ys = refl
data_on ls last (t ∷ xs) ys =
    let its = exchanged (ls t.mount).mount (last t.mount) t.input in
    let now : ℕ → Option Ask = λ m. pends_in m (ls m).mount (last m) t in
    ap (λ more. its ++ more) (data_on (lived ls t) now xs ys)
    ∙ sym (append_assoc its (data_from (lived ls t) now xs) (data_from (lives_from (lived ls t) xs) (lasts_from (lived ls t) now xs) ys))

pub data_more : (layout : Layout) (v : Extent) (before : List MountTold) (t : MountTold)
    → data_in layout v (before ++ t ∷ []) ≡ data_in layout v before ++ exchanged (lives layout v before t.mount).mount (pends layout v before t.mount) t.input
data_more layout v before t =
    let x = (lives layout v before t.mount).mount in
    let none : ℕ → Option Ask = λ m. None in
    data_on (all_opened layout v) none before (t ∷ [])
    ∙ ap (λ more. data_in layout v before ++ more) (append-nil (exchanged x (lasts_from (all_opened layout v) none before t.mount) t.input))
    ∙ ap (λ last. data_in layout v before ++ exchanged x last t.input) (lasts_are (all_opened layout v) none before t.mount)
