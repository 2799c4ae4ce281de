-- A call is read in one way.
use Rattle.std.proofs.Common.{◌≡◌, ℕ, List, refl, sym, ap, ◌∙◌}
use Rattle.pf_base.specs.declared.calls.Call.{Call}
use Rattle.pf_base.specs.declared.calls.Call.TheVariants as calls
use Rattle.pf_tree_tables.specs.Names.{Path}
use Rattle.pf_tree.specs.Calls.{FileCall}
use Rattle.pf_layout.specs.Calls.{IsReadAs, SpellsPath}
use Rattle.pf_layout.proofs.PathLaws.{paths_apart}

one_path : (word : List ℕ) (p q : Path) → SpellsPath word p → SpellsPath word q → p ≡ q
one_path word p q is_p is_q = paths_apart p q is_p.0.names is_q.0.names (is_p.1 ∙ sym is_q.1)

-- the call as it is read
abbrev pub ReadsTo : Call (List ℕ) → FileCall → Type 0
ReadsTo (calls.Mkdir w) file = (p : Path) × SpellsPath w p × (file ≡ calls.Mkdir p)
ReadsTo (calls.Create w) file = (p : Path) × SpellsPath w p × (file ≡ calls.Create p)
ReadsTo (calls.Write w offset byte count) file = (p : Path) × SpellsPath w p × (file ≡ calls.Write p offset byte count)
ReadsTo (calls.Read w offset count) file = (p : Path) × SpellsPath w p × (file ≡ calls.Read p offset count)
ReadsTo (calls.Truncate w size) file = (p : Path) × SpellsPath w p × (file ≡ calls.Truncate p size)
ReadsTo (calls.Rename from to) file = (p : Path) × (q : Path) × SpellsPath from p × SpellsPath to q × (file ≡ calls.Rename p q)
ReadsTo (calls.Unlink w) file = (p : Path) × SpellsPath w p × (file ≡ calls.Unlink p)
ReadsTo (calls.Rmdir w) file = (p : Path) × SpellsPath w p × (file ≡ calls.Rmdir p)
ReadsTo (calls.Stat w) file = (p : Path) × SpellsPath w p × (file ≡ calls.Stat p)
ReadsTo (calls.List w) file = (p : Path) × SpellsPath w p × (file ≡ calls.List p)

reads_to : (call : Call (List ℕ)) (file : FileCall) → IsReadAs call file → ReadsTo call file
reads_to (calls.Mkdir w) (calls.Mkdir p) is = (p, is, refl)
reads_to (calls.Create w) (calls.Create p) is = (p, is, refl)
reads_to (calls.Write w at byte count) (calls.Write p offset value many) is =
    (p, is.0, ap (λ (n : ℕ). calls.Write p n value many) (sym is.1) ∙ ap (λ (n : ℕ). calls.Write p at n many) (sym is.2) ∙ ap (λ (n : ℕ). calls.Write p at byte n) (sym is.3))
reads_to (calls.Read w at count) (calls.Read p offset many) is =
    (p, is.0, ap (λ (n : ℕ). calls.Read p n many) (sym is.1) ∙ ap (λ (n : ℕ). calls.Read p at n) (sym is.2))
reads_to (calls.Truncate w size) (calls.Truncate p to) is = (p, is.0, ap (λ (n : ℕ). calls.Truncate p n) (sym is.1))
reads_to (calls.Rename from to) (calls.Rename p q) is = (p, q, is.0.0, is.1.0, refl)
reads_to (calls.Unlink w) (calls.Unlink p) is = (p, is, refl)
reads_to (calls.Rmdir w) (calls.Rmdir p) is = (p, is.0, refl)
reads_to (calls.Stat w) (calls.Stat p) is = (p, is, refl)
reads_to (calls.List w) (calls.List p) is = (p, is, refl)
reads_to call file is = absurd is

one_reading : (call : Call (List ℕ)) (f g : FileCall) → ReadsTo call f → ReadsTo call g → f ≡ g
one_reading (calls.Mkdir w) f g (p, s, e) (q, t, d) = e ∙ ap (λ (x : Path). calls.Mkdir x) (one_path w p q s t) ∙ sym d
one_reading (calls.Create w) f g (p, s, e) (q, t, d) = e ∙ ap (λ (x : Path). calls.Create x) (one_path w p q s t) ∙ sym d
one_reading (calls.Write w offset byte count) f g (p, s, e) (q, t, d) = e ∙ ap (λ (x : Path). calls.Write x offset byte count) (one_path w p q s t) ∙ sym d
one_reading (calls.Read w offset count) f g (p, s, e) (q, t, d) = e ∙ ap (λ (x : Path). calls.Read x offset count) (one_path w p q s t) ∙ sym d
one_reading (calls.Truncate w size) f g (p, s, e) (q, t, d) = e ∙ ap (λ (x : Path). calls.Truncate x size) (one_path w p q s t) ∙ sym d
one_reading (calls.Rename from to) f g (p, p', s, s', e) (q, q', t, t', d) =
    e ∙ ap (λ (x : Path). calls.Rename x p') (one_path from p q s t) ∙ ap (λ (x : Path). calls.Rename q x) (one_path to p' q' s' t') ∙ sym d
one_reading (calls.Unlink w) f g (p, s, e) (q, t, d) = e ∙ ap (λ (x : Path). calls.Unlink x) (one_path w p q s t) ∙ sym d
one_reading (calls.Rmdir w) f g (p, s, e) (q, t, d) = e ∙ ap (λ (x : Path). calls.Rmdir x) (one_path w p q s t) ∙ sym d
one_reading (calls.Stat w) f g (p, s, e) (q, t, d) = e ∙ ap (λ (x : Path). calls.Stat x) (one_path w p q s t) ∙ sym d
one_reading (calls.List w) f g (p, s, e) (q, t, d) = e ∙ ap (λ (x : Path). calls.List x) (one_path w p q s t) ∙ sym d

pub read_alike : (call : Call (List ℕ)) (f g : FileCall) → IsReadAs call f → IsReadAs call g → f ≡ g
read_alike call f g is_f is_g = one_reading call f g (reads_to call f is_f) (reads_to call g is_g)
