-- A word is read as the path that it spells, and words as the call that they make.
use Rattle.std.proofs.Common.{◌≡◌, ◌≢◌, ◌≤◌, ℕ, Bool, true, false, not, ◌&&◌, ◌==◌, cond, IsTrue, List, [], ◌∷◌, ◌++◌, length, codes, nat_le, Option, Some, None, inl, inr, refl, sym, ap, subst, ◌∙◌, append-nil, append_assoc, lit≤}
use Rattle.std.specs.Bool.{Decides}
use Rattle.std.specs.List.{AllByRecursion, list_all}
use Rattle.std.specs.Option.{option_map}
use Rattle.std.specs.Str.{bytes_eq}
use Rattle.std.proofs.lemmas.Bool.{and_from, and_parts, cases_Bool, cond-true, cond-false, false≢true, false_from_ne_true, le-leb, leb-true, not-true, not_from_false}
use Rattle.std.proofs.lemmas.Bool.Decides.{eqb_tells}
use Rattle.std.proofs.lemmas.Option.{same_Some}
use Rattle.std.proofs.lemmas.Slice.Eq.{bytes_eq-Decides}
use Rattle.pf_base.specs.declared.calls.Call.{Call}
use Rattle.pf_base.specs.declared.calls.Call.TheVariants as calls
use Rattle.pf_tree_tables.specs.Names.{Name, Path}
use Rattle.pf_tree.specs.Calls.{FileCall}
use Rattle.pf_tree.specs.Paths.{names_bytes, path_bytes}
use Rattle.pf_layout.specs.Calls.{IsReadAs, SpellsPath, SpellsPlace}
use Rattle.pf_layout.specs.Paths.{IsName, IsPath, is_name_byte}
use Rattle.pf_layout.proofs.PathLaws.{no_root}
use Rattle.pf_world_moments.specs.Words.{is_name, is_path, longer_by, path_in, place_in, path_placed, read_call, renaming, spelled_by, split_on}

-- ---- names and paths are told by their tests

both : {P Q : Type 0} → (a b : Bool) → Decides a P → Decides b Q → Decides (a && b) (P × Q)
both a b p q = (λ e. let parts = and_parts a b e in (p.0 parts.0, q.0 parts.1), λ x. and_from a b (p.1 x.0) (q.1 x.1))

neither : {P : Type 0} → (a : Bool) → Decides a P → Decides (not a) (P → ⊥)
neither a p = (λ e x. false≢true (sym (not-true a e) ∙ p.1 x), λ no. not_from_false a (false_from_ne_true a (λ e. no (p.0 e))))

each : {X : Type 0} → (f : X → Bool) (P : X → Type 0) → ((x : X) → Decides (f x) (P x)) → (xs : List X) → Decides (list_all f xs) (AllByRecursion P xs)
each f P one [] = (λ e. tt, λ x. refl)
each f P one (x ∷ xs) = both (f x) (list_all f xs) (one x) (each f P one xs)

at_most : (a b : ℕ) → Decides (nat_le a b) (a ≤ b)
at_most a b = (leb-true a b, le-leb a b)

pub is_name_tells : (name : Name) → Decides (is_name name) (IsName name)
is_name_tells name =
    let tells = both _ _ (both _ _ (both _ _ (both _ _ (at_most 1 (length name)) (at_most (length name) 24))
    (each is_name_byte (λ b. IsTrue (is_name_byte b)) (λ b. (λ e. e, λ e. e)) name)) (neither _ (bytes_eq-Decides name (codes ".")))) (neither _ (bytes_eq-Decides name (codes ".."))) in (
      λ e. let is = tells.0 e in record { some = is.0.0.0.0; few = is.0.0.0.1; bytes = is.0.0.1; not_here = is.0.1; not_above = is.1 },
      λ is. tells.1 ((((is.some, is.few), is.bytes), is.not_here), is.not_above),
    )

pub is_path_tells : (path : Path) → Decides (is_path path) (IsPath path)
is_path_tells path =
    let tells = both _ _ (both _ _ (at_most (length path) 16) (each is_name IsName is_name_tells path)) (at_most (length (path_bytes path)) 255) in (
      λ e. let is = tells.0 e in record { few = is.0.0; names = is.0.1; short = is.1 },
      λ is. tells.1 ((is.few, is.names), is.short),
    )

-- ---- a word of names is split into them

no_slash : (b : ℕ) → IsTrue (is_name_byte b) → (b == 47) ≡ false
no_slash b is = elim (eqb_tells b 47) [
  | inl same ↦ let P : ℕ → Type 0 = λ n. IsTrue (is_name_byte n) in absurd (false≢true (subst P same.1 is))
  | inr other ↦ other.0
]

split_append : (names : Path) (front rest : List ℕ) → split_on names (front ++ rest) ≡ split_on (split_on names front) rest
split_append names [] rest = refl
split_append names (b ∷ front) rest = split_append (cond (b == 47) ([] ∷ names) (longer_by b names)) front rest

split_name : (begun : Name) (names : Path) (name : Name) → AllByRecursion (λ b. IsTrue (is_name_byte b)) name → split_on (begun ∷ names) name ≡ (begun ++ name) ∷ names
split_name begun names [] are = ap (λ (n : Name). n ∷ names) (sym (append-nil begun))
split_name begun names (b ∷ name) are =
    ap (λ (slash : Bool). split_on (cond slash ([] ∷ begun ∷ names) ((begun ++ b ∷ []) ∷ names)) name) (no_slash b are.0)
    ∙ split_name (begun ++ b ∷ []) names name are.1
    ∙ ap (λ (n : Name). n ∷ names) (append_assoc begun (b ∷ []) name)

split_names : (path : Path) → AllByRecursion IsName path → split_on [] (names_bytes path) ≡ path
split_names [] are = refl
split_names (name ∷ path) are =
    split_append [] (names_bytes path) (47 ∷ name) ∙ ap (λ (names : Path). split_on names (47 ∷ name)) (split_names path are.1) ∙ split_name [] path name are.0.bytes

-- ---- a word is read as the path that it spells

root_is : IsPath []
root_is = record { few = lit≤ tt; names = tt; short = lit≤ tt }

some_if : (b : Bool) (q p : Path) → ◌≡◌ {A = Option Path} (cond b (Some q) None) (Some p) → (b ≡ true) × (q ≡ p)
some_if true q p e = (refl, same_Some q p e)
some_if false q p e = absurd (cc)

spelled_so : (word : List ℕ) (path p : Path) → spelled_by word path ≡ Some p → SpellsPath word p
spelled_so word path p e =
    let it = some_if (is_path path && bytes_eq (path_bytes path) word) path p e in
    let tests = and_parts (is_path path) (bytes_eq (path_bytes path) word) it.0 in
    subst (SpellsPath word) it.1 ((is_path_tells path).0 tests.0, (bytes_eq-Decides (path_bytes path) word).0 tests.1)

pub path_spelled : (word : List ℕ) (p : Path) → path_in word ≡ Some p → SpellsPath word p
path_spelled word p e = elim (cases_Bool (bytes_eq word (path_bytes []))) [
  | inl root ↦
      subst (SpellsPath word) (same_Some [] p (sym (cond-true _ _ _ root) ∙ e)) (root_is, sym ((bytes_eq-Decides word (path_bytes [])).0 root))
  | inr other ↦ spelled_so word (split_on [] word) p (sym (cond-false _ _ _ other) ∙ e)
]

pub path_read : (word : List ℕ) (p : Path) → SpellsPath word p → path_in word ≡ Some p
path_read word [] is = cond-true _ _ _ ((bytes_eq-Decides word (path_bytes [])).1 (sym is.1))
path_read word (name ∷ path) is =
    let other : bytes_eq word (path_bytes []) ≡ false =
    false_from_ne_true _ (λ root. no_root (name ∷ path) is.0.names (is.1 ∙ (bytes_eq-Decides word (path_bytes [])).0 root)) in
    let split : split_on [] word ≡ name ∷ path = ap (split_on []) (sym is.1) ∙ split_names (name ∷ path) is.0.names in
    cond-false _ _ _ other ∙ ap (spelled_by word) split
    ∙ cond-true _ _ _ (and_from _ _ ((is_path_tells (name ∷ path)).1 is.0) ((bytes_eq-Decides (path_bytes (name ∷ path)) word).1 is.1))

place_so : (o : Option Path) (p : Path) → path_placed o ≡ Some p → (o ≡ Some p) × (p ≢ [])
place_so None p e = absurd (cc)
place_so (Some []) p e = absurd (cc)
place_so (Some (name ∷ path)) p e = (e, λ none. by (same_Some (name ∷ path) p e ∙ none)) where
  by : name ∷ path ≢ []
  by same = cc

place_spelled : (word : List ℕ) (p : Path) → place_in word ≡ Some p → SpellsPlace word p
place_spelled word p e = let it = place_so (path_in word) p e in (path_spelled word p it.0, it.1)

place_read : (word : List ℕ) (p : Path) → SpellsPlace word p → place_in word ≡ Some p
place_read word [] is = absurd (is.1 refl)
place_read word (name ∷ path) is = ap path_placed (path_read word (name ∷ path) is.0)

-- ---- and words as the call that they make

mapped : (f : Path → FileCall) (o : Option Path) (file : FileCall) → option_map f o ≡ Some file → (p : Path) × (o ≡ Some p) × (f p ≡ file)
mapped f None file e = absurd (cc)
mapped f (Some p) file e = (p, refl, same_Some (f p) file e)

renamed : (from to : Option Path) (file : FileCall) → renaming from to ≡ Some file → (p : Path) × (q : Path) × (from ≡ Some p) × (to ≡ Some q) × (calls.Rename p q ≡ file)
renamed None to file e = absurd (cc)
renamed (Some p) to file e = let it = mapped (λ q. calls.Rename p q) to file e in (p, it.0, refl, it.1, it.2)

-- what comes of the words' path
of_path : (call : Call (List ℕ)) (f : Path → FileCall) (word : List ℕ) (file : FileCall) → ((p : Path) → SpellsPath word p → IsReadAs call (f p)) → option_map f (path_in word) ≡ Some file → IsReadAs call file
of_path call f word file so e = let it = mapped f (path_in word) file e in subst (IsReadAs call) it.2 (so it.0 (path_spelled word it.0 it.1))

pub call_spelled : (call : Call (List ℕ)) (file : FileCall) → read_call call ≡ Some file → IsReadAs call file
call_spelled (calls.Mkdir w) file e = of_path (calls.Mkdir w) (λ p. calls.Mkdir p) w file (λ p is. is) e
call_spelled (calls.Create w) file e = of_path (calls.Create w) (λ p. calls.Create p) w file (λ p is. is) e
call_spelled (calls.Write w offset byte count) file e = of_path (calls.Write w offset byte count) (λ p. calls.Write p offset byte count) w file (λ p is. (is, refl, refl, refl)) e
call_spelled (calls.Read w offset count) file e = of_path (calls.Read w offset count) (λ p. calls.Read p offset count) w file (λ p is. (is, refl, refl)) e
call_spelled (calls.Truncate w size) file e = of_path (calls.Truncate w size) (λ p. calls.Truncate p size) w file (λ p is. (is, refl)) e
call_spelled (calls.Rename from to) file e =
    let it = renamed (place_in from) (place_in to) file e in
    subst (IsReadAs (calls.Rename from to)) it.4 (place_spelled from it.0 it.2, place_spelled to it.1 it.3)
call_spelled (calls.Unlink w) file e = of_path (calls.Unlink w) (λ p. calls.Unlink p) w file (λ p is. is) e
call_spelled (calls.Rmdir w) file e =
    let it = mapped (λ p. calls.Rmdir p) (place_in w) file e in
    subst (IsReadAs (calls.Rmdir w)) it.2 (place_spelled w it.0 it.1)
call_spelled (calls.Stat w) file e = of_path (calls.Stat w) (λ p. calls.Stat p) w file (λ p is. is) e
call_spelled (calls.List w) file e = of_path (calls.List w) (λ p. calls.List p) w file (λ p is. is) e

pub call_read : (call : Call (List ℕ)) (file : FileCall) → IsReadAs call file → read_call call ≡ Some file
call_read (calls.Mkdir w) (calls.Mkdir p) is = ap (option_map (λ q. calls.Mkdir q)) (path_read w p is)
call_read (calls.Create w) (calls.Create p) is = ap (option_map (λ q. calls.Create q)) (path_read w p is)
call_read (calls.Write w at byte count) (calls.Write p offset value many) is =
    ap (option_map (λ q. calls.Write q at byte count)) (path_read w p is.0)
    ∙ ap (λ (n : ℕ). Some (calls.Write p n byte count)) is.1 ∙ ap (λ (n : ℕ). Some (calls.Write p offset n count)) is.2 ∙ ap (λ (n : ℕ). Some (calls.Write p offset value n)) is.3
call_read (calls.Read w at count) (calls.Read p offset many) is =
    ap (option_map (λ q. calls.Read q at count)) (path_read w p is.0) ∙ ap (λ (n : ℕ). Some (calls.Read p n count)) is.1 ∙ ap (λ (n : ℕ). Some (calls.Read p offset n)) is.2
call_read (calls.Truncate w size) (calls.Truncate p to) is = ap (option_map (λ q. calls.Truncate q size)) (path_read w p is.0) ∙ ap (λ (n : ℕ). Some (calls.Truncate p n)) is.1
call_read (calls.Rename from to) (calls.Rename p q) is =
    ap (λ (o : Option Path). renaming o (place_in to)) (place_read from p is.0) ∙ ap (option_map (λ r. calls.Rename p r)) (place_read to q is.1)
call_read (calls.Unlink w) (calls.Unlink p) is = ap (option_map (λ q. calls.Unlink q)) (path_read w p is)
call_read (calls.Rmdir w) (calls.Rmdir p) is = ap (option_map (λ q. calls.Rmdir q)) (place_read w p is)
call_read (calls.Stat w) (calls.Stat p) is = ap (option_map (λ q. calls.Stat q)) (path_read w p is)
call_read (calls.List w) (calls.List p) is = ap (option_map (λ q. calls.List q)) (path_read w p is)
call_read call file is = absurd is

-- words that are misspelled make no call
pub none_read : (call : Call (List ℕ)) → ((file : FileCall) → IsReadAs call file → ⊥) → read_call call ≡ None
none_read call wrong = by (read_call call) refl where
  by : (o : Option FileCall) → read_call call ≡ o → o ≡ None
  by None is = refl
  by (Some file) is = absurd (wrong file (call_spelled call file is))
