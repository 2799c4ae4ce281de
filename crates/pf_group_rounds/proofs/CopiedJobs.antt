-- Jobs whose sectors were copied, all of them.
use Rattle.std.proofs.Common.{◌≡◌, ℕ, suc, true, List, [], ◌∷◌, ◌++◌, Option, Some, None, IfSome, is_some, length, take, refl, sym, ap, ◌∙◌, arith}
use Rattle.std.specs.List.{list_all}
use Rattle.std.proofs.lemmas.Bool.{and_parts, false≢true}
use Rattle.pf_base.specs.declared.filled.Filled.{Filled}
use Rattle.pf_entry.specs.declared.ops.Job.{Job}
use Rattle.pf_group_copy.specs.declared.work.CopyWork.{CopyWork}
use Rattle.pf_group_copy.specs.Filling.{filled_of}
use Rattle.pf_group_copy.specs.Works.{AreBrought}
use Rattle.pf_group_rounds.specs.Open.{AreFilled, jobs_of}

rest_brought : (w v : CopyWork) (ws vs : List CopyWork) → AreBrought (w ∷ ws) (v ∷ vs) → AreBrought ws vs
rest_brought w v ws vs all = let same = all.same in record { same = omega arith; each = λ i was is old new. all.each (suc i) was is old new }

-- the same jobs
pub brought_jobs : (ws vs : List CopyWork) → AreBrought ws vs → jobs_of vs ≡ jobs_of ws
brought_jobs [] [] all = refl
brought_jobs [] (v ∷ vs) all = let same = all.same in absurd (omega arith)
brought_jobs (w ∷ ws) [] all = let same = all.same in absurd (omega arith)
brought_jobs (w ∷ ws) (v ∷ vs) all = ap (λ j. j ∷ jobs_of vs) (all.each 0 w v refl refl).job ∙ ap (λ js. w.job ∷ js) (brought_jobs ws vs (rest_brought w v ws vs all))

one_filled : (job : Job) (filled : Option Filled) → IfSome filled (λ f. f ≡ filled_of job) → is_some filled ≡ true → filled ≡ Some (filled_of job)
one_filled job None is some = absurd (false≢true some)
one_filled job (Some f) is some = ap Some is

-- each with its sectors
pub brought_filled : (ws vs : List CopyWork) → AreBrought ws vs → list_all (λ w. is_some w.filled) vs ≡ true → AreFilled vs
brought_filled [] [] all some = tt
brought_filled [] (v ∷ vs) all some = let same = all.same in absurd (omega arith)
brought_filled (w ∷ ws) [] all some = tt
brought_filled (w ∷ ws) (v ∷ vs) all some =
    let parts = and_parts (is_some v.filled) (list_all (λ (x : CopyWork). is_some x.filled) vs) some in
    let one = all.each 0 w v refl refl in
    (one_filled w.job v.filled one.filled parts.0 ∙ ap (λ j. Some (filled_of j)) (sym one.job), brought_filled ws vs (rest_brought w v ws vs all) parts.1)

pub taken_front : {A : Type 0} → (n : ℕ) (xs ys : List A) → n ≡ length xs → take n (xs ++ ys) ≡ xs
taken_front n [] ys is = ap (λ k. take k ys) is
taken_front n (x ∷ xs) ys is = ap (λ k. take k (x ∷ (xs ++ ys))) is ∙ ap (λ l. x ∷ l) (taken_front (length xs) xs ys refl)
