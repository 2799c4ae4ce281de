-- Words that spell paths are cut at their last `/`.
use Rattle.std.proofs.Common.{◌≡◌, ◌≢◌, ◌⊎◌, ℕ, ◌≤◌, IsTrue, List, [], ◌∷◌, ◌++◌, length, slice_index, Option, Some, None, ◌↔◌, refl, sym, ap, subst, ◌∙◌, arith, inl, inr, append_assoc, length-append}
use Rattle.std.specs.List.{AllByRecursion}
use Rattle.std.proofs.lemmas.List.{append-nil}
use Rattle.std.proofs.lemmas.Bool.{cases_eq, false≢true}
use Rattle.pf_tree_tables.specs.Names.{Name, Path}
use Rattle.pf_tree.specs.Paths.{below}
use Rattle.pf_tree.specs.Trees.{has_rest}
use Rattle.pf_tree.proofs.Paths.{below_of, below_is}
use Rattle.pf_layout.specs.Paths.{IsName, IsPath, is_name_byte}
use Rattle.pf_tree.specs.Paths.{names_bytes, path_bytes}

-- ---- bytes that are no `/`

abbrev pub NoSlash : List ℕ → Type 0
NoSlash bytes = AllByRecursion (λ b. b ≢ 47) bytes

abbrev tail_of : List ℕ → List ℕ
tail_of [] = []
tail_of (b ∷ bytes) = bytes

not_slash : (b : ℕ) → IsTrue (is_name_byte b) → b ≢ 47
not_slash b is e = let P : ℕ → Type 0 = λ n. IsTrue (is_name_byte n) in false≢true (subst P e is)

no_slashes : (bytes : List ℕ) → AllByRecursion (λ b. IsTrue (is_name_byte b)) bytes → NoSlash bytes
no_slashes [] is = tt
no_slashes (b ∷ bytes) is = (not_slash b is.0, no_slashes bytes is.1)

name_no_slash : (name : Name) → IsName name → NoSlash name
name_no_slash name is = no_slashes name is.bytes

has_slash : (front bytes : List ℕ) → NoSlash (front ++ 47 ∷ bytes) → ⊥
has_slash [] bytes h = h.0 refl
has_slash (b ∷ front) bytes h = has_slash front bytes h.1

-- the last `/` is at one place
same_end : (a b x y : List ℕ) → NoSlash x → NoSlash y → a ++ 47 ∷ x ≡ b ++ 47 ∷ y → (a ≡ b) × (x ≡ y)
same_end [] [] x y hx hy e = (refl, ap tail_of e)
same_end [] (c ∷ b) x y hx hy e = absurd (has_slash b y (subst NoSlash (ap tail_of e) hx))
same_end (c ∷ a) [] x y hx hy e = absurd (has_slash a x (subst NoSlash (sym (ap tail_of e)) hy))
same_end (c ∷ a) (d ∷ b) x y hx hy e =
    let h = same_end a b x y hx hy (ap tail_of e) in
    ((λ i. slice_index (e i) 0 ∷ h.0 i), h.1)

-- ---- names in a row

pub names_append : (xs ys : Path) → names_bytes (xs ++ ys) ≡ names_bytes ys ++ names_bytes xs
names_append [] ys = sym (append-nil (names_bytes ys))
names_append (x ∷ xs) ys = ap (λ bytes. bytes ++ 47 ∷ x) (names_append xs ys) ∙ append_assoc (names_bytes ys) (names_bytes xs) (47 ∷ x)

-- one more name in front of a word
pub one_more : (front name : List ℕ) (names : Path) → front ++ names_bytes (names ++ name ∷ []) ≡ (front ++ 47 ∷ name) ++ names_bytes names
one_more front name names = ap (λ bytes. front ++ bytes) (names_append names (name ∷ [])) ∙ sym (append_assoc front (47 ∷ name) (names_bytes names))

pub all_append : (xs : Path) (name : Name) → AllByRecursion IsName xs → IsName name → AllByRecursion IsName (xs ++ name ∷ [])
all_append [] name all is = (is, tt)
all_append (x ∷ xs) name all is = (all.0, all_append xs name all.1 is)

not_nothing : (a x : List ℕ) → a ++ 47 ∷ x ≢ []
not_nothing a x e = let k = ap length e in let h = length-append a (47 ∷ x) in omega (arith, k, h)

-- names that spell a word spell what is left of it, without those that end it
pub what_is_left : (xs path : Path) (rest : List ℕ) → AllByRecursion IsName xs → AllByRecursion IsName path → names_bytes path ≡ rest ++ names_bytes xs
    → (left : Path) × AllByRecursion IsName left × (names_bytes left ≡ rest)
what_is_left [] path rest all is e = (path, is, e ∙ append-nil rest)
what_is_left (x ∷ xs) [] rest all is e = absurd (not_nothing (rest ++ names_bytes xs) x (append_assoc rest (names_bytes xs) (47 ∷ x) ∙ sym e))
what_is_left (x ∷ xs) (name ∷ path) rest all is e =
    let cut = same_end (names_bytes path) (rest ++ names_bytes xs) name x (name_no_slash name is.0) (name_no_slash x all.0) (e ∙ sym (append_assoc rest (names_bytes xs) (47 ∷ x))) in
    what_is_left xs path rest all.1 is.1 cut.0

-- no names spell a word without `/`, unless it is empty
pub none_without : (path : Path) (rest : List ℕ) → rest ≢ [] → NoSlash rest → names_bytes path ≢ rest
none_without [] rest some none e = some (sym e)
none_without (name ∷ path) rest some none e = has_slash (names_bytes path) name (subst NoSlash (sym e) none)

-- what follows the last `/` is the last name
pub last_is_name : (path : Path) (front end : List ℕ) → AllByRecursion IsName path → NoSlash end → names_bytes path ≡ front ++ 47 ∷ end → IsName end
last_is_name [] front end is h e = absurd (not_nothing front end (sym e))
last_is_name (name ∷ path) front end is h e = subst IsName (same_end (names_bytes path) front name end (name_no_slash name is.0) h e).1 is.0

-- ---- no two paths have one spelling

names_apart : (p q : Path) → AllByRecursion IsName p → AllByRecursion IsName q → names_bytes p ≡ names_bytes q → p ≡ q
names_apart [] [] is_p is_q e = refl
names_apart [] (m ∷ q) is_p is_q e = absurd (not_nothing (names_bytes q) m (sym e))
names_apart (n ∷ p) [] is_p is_q e = absurd (not_nothing (names_bytes p) n e)
names_apart (n ∷ p) (m ∷ q) is_p is_q e =
    let cut = same_end (names_bytes p) (names_bytes q) n m (name_no_slash n is_p.0) (name_no_slash m is_q.0) e in
    let rest = names_apart p q is_p.1 is_q.1 cut.0 in
    λ i. cut.1 i ∷ rest i

no_name : IsName [] → ⊥
no_name is = let some = is.some in omega (arith, some)

-- `/` alone ends in no name
pub no_root : (path : Path) → AllByRecursion IsName path → names_bytes path ≢ path_bytes []
no_root path is e = no_name (last_is_name path [] [] is tt e)

pub paths_apart : (p q : Path) → AllByRecursion IsName p → AllByRecursion IsName q → path_bytes p ≡ path_bytes q → p ≡ q
paths_apart [] [] is_p is_q e = refl
paths_apart [] (m ∷ q) is_p is_q e = absurd (no_root (m ∷ q) is_q (sym e))
paths_apart (n ∷ p) [] is_p is_q e = absurd (no_root (n ∷ p) is_p e)
paths_apart (n ∷ p) (m ∷ q) is_p is_q e = names_apart (n ∷ p) (m ∷ q) is_p is_q e

-- the names of a word that is not `/` are those of the path that it spells
pub same_names : (names path : Path) (word : List ℕ) → AllByRecursion IsName names → names_bytes names ≡ word → word ≢ path_bytes [] → IsPath path → path_bytes path ≡ word
    → (1 ≤ length names) × (length names ≤ 16)
same_names names [] word are spelled other is e = absurd (other (sym e))
same_names names (n ∷ path) word are spelled other is e =
    let len = ap length (names_apart names (n ∷ path) are is.names (spelled ∙ sym e)) in let few = is.few in (omega (arith, len), omega (arith, len, few))

-- ---- paths below others

abbrev GoesOn : List ℕ → List ℕ → Type 0
GoesOn front word = (rest : List ℕ) × (word ≡ front ++ 47 ∷ rest)

last_cut : (bytes : List ℕ) → NoSlash bytes ⊎ ((front : List ℕ) × (end : List ℕ) × NoSlash end × (bytes ≡ front ++ 47 ∷ end))
last_cut [] = inl tt
last_cut (b ∷ bytes) =
    elim (last_cut bytes) [
      | inl none ↦ elim (cases_eq b 47) [
        | inl slash ↦ inr ([], bytes, none, ap (λ c. c ∷ bytes) slash)
        | inr other ↦ inl (other, none)
      ]
      | inr cut ↦ inr (b ∷ cut.0, cut.1, cut.2, ap (λ bs. b ∷ bs) cut.3)
    ]

-- a word that goes on behind another path's is that of a path below
goes_below : (from to : Path) (rest : List ℕ) → AllByRecursion IsName from → AllByRecursion IsName to → names_bytes to ≡ names_bytes from ++ 47 ∷ rest
    → (name : Name) × (path : Path) × (to ≡ (name ∷ path) ++ from)
goes_below from [] rest is_from is_to e = absurd (not_nothing (names_bytes from) rest (sym e))
goes_below from (m ∷ to) rest is_from is_to e =
    elim (last_cut rest) [
      | inl none ↦
          let cut = same_end (names_bytes to) (names_bytes from) m rest (name_no_slash m is_to.0) none e in
          (m, [], ap (λ (p : Path). m ∷ p) (names_apart to from is_to.1 is_from cut.0))
      | inr cut ↦
          let more : names_bytes to ++ 47 ∷ m ≡ (names_bytes from ++ 47 ∷ cut.0) ++ 47 ∷ cut.1 =
          e ∙ ap (λ bytes. names_bytes from ++ 47 ∷ bytes) cut.3 ∙ sym (append_assoc (names_bytes from) (47 ∷ cut.0) (47 ∷ cut.1)) in
          let shorter = same_end (names_bytes to) (names_bytes from ++ 47 ∷ cut.0) m cut.1 (name_no_slash m is_to.0) cut.2 more in
          let below_it = goes_below from to cut.0 is_from is_to.1 shorter.0 in
          (m, below_it.0 ∷ below_it.1, ap (λ (p : Path). m ∷ p) below_it.2)
    ]

-- names begin with `/`
begins : (name : Name) (path : Path) → (rest : List ℕ) × (names_bytes (name ∷ path) ≡ 47 ∷ rest)
begins name [] = (name, refl)
begins name (m ∷ path) = let b = begins m path in (b.0 ++ 47 ∷ name, ap (λ bytes. bytes ++ 47 ∷ name) b.1)

past_root : (a m rest : List ℕ) → 47 ∷ [] ≢ (a ++ 47 ∷ m) ++ 47 ∷ rest
past_root a m rest e =
    let k = ap length e in let h = length-append (a ++ 47 ∷ m) (47 ∷ rest) in let g = length-append a (47 ∷ m) in omega (arith, k, h, g)

names_go_on : (o : Option Path) → IsTrue (has_rest o) → (name : Name) × (path : Path) × (o ≡ Some (name ∷ path))
names_go_on None is = absurd (false≢true is)
names_go_on (Some []) is = absurd (false≢true is)
names_go_on (Some (name ∷ path)) is = (name, path, refl)

word_goes_on : (m : Name) (from to : Path) → IsTrue (has_rest (below (m ∷ from) to)) → GoesOn (path_bytes (m ∷ from)) (path_bytes to)
word_goes_on m from to is =
    let on = names_go_on (below (m ∷ from) to) is in
    let b = begins on.0 on.1 in
    (b.0, ap path_bytes (below_is (m ∷ from) to (on.0 ∷ on.1) on.2) ∙ names_append (on.0 ∷ on.1) (m ∷ from) ∙ ap (λ bytes. names_bytes (m ∷ from) ++ bytes) b.1)

path_goes_on : (m : Name) (from to : Path) → AllByRecursion IsName (m ∷ from) → AllByRecursion IsName to → GoesOn (path_bytes (m ∷ from)) (path_bytes to) → IsTrue (has_rest (below (m ∷ from) to))
path_goes_on m from [] is_from is_to on = absurd (past_root (names_bytes from) m on.0 on.1)
path_goes_on m from (n ∷ to) is_from is_to on =
    let b = goes_below (m ∷ from) (n ∷ to) on.0 is_from is_to on.1 in
    subst (λ p. IsTrue (has_rest (below (m ∷ from) p))) (sym b.2) (subst (λ o. IsTrue (has_rest o)) (sym (below_of (m ∷ from) (b.0 ∷ b.1))) refl)

-- names go on below those of another path exactly where the word goes on behind that path's and a `/`
pub goes_on_below : (from to : Path) → IsPath from → IsPath to → from ≢ [] → IsTrue (has_rest (below from to)) ↔ GoesOn (path_bytes from) (path_bytes to)
goes_on_below [] to is_from is_to some = absurd (some refl)
goes_on_below (m ∷ from) to is_from is_to some = (word_goes_on m from to, path_goes_on m from to is_from.names is_to.names)
