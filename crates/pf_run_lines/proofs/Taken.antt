-- What a sink took in two goes.
use Rattle.std.proofs.Common.{ℕ, List, [], ◌++◌, Option, Some, None, ap, sym, ◌∙◌, append_assoc, append-nil}
use Rattle.std.specs.Io.KnownBytes.{Appends}
use Rattle.pf_run_lines.specs.Ends.{AppendsFront}

pub appends_both : (a b c : Option (List ℕ)) (xs ys : List ℕ) → Appends a b xs → Appends b c ys → Appends a c (xs ++ ys)
appends_both None b c xs ys h k = tt
appends_both (Some p) None c xs ys h k = absurd h
appends_both (Some p) (Some q) None xs ys h k = absurd k
appends_both (Some p) (Some q) (Some r) xs ys h k = k ∙ ap (λ (l : List ℕ). l ++ ys) h ∙ append_assoc p xs ys

pub appends_none : (a : Option (List ℕ)) → Appends a a []
appends_none None = tt
appends_none (Some p) = sym (append-nil p)

-- a text, and then a front of another
pub front_after : (a b c : Option (List ℕ)) (x y : List ℕ) → Appends a b x → AppendsFront b c y → AppendsFront a c (x ++ y)
front_after a b c x y h front = (
  x ++ front.0,
  front.1,
  append_assoc x front.0 front.1 ∙ ap (λ l. x ++ l) front.2,
  appends_both a b c x front.0 h front.3,
)
