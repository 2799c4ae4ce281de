-- The words of a form: there are at most 7, so the first 8 of a line tell its form.
use Rattle.std.proofs.Common.{◌≡◌, ℕ, List, [], ◌∷◌, Option, Some, None, refl, take, ap, ◌∙◌, cond}
use Rattle.pf_script.specs.declared.form.Verb.{Verb}
use Rattle.pf_script.specs.declared.form.Verb.TheVariants as verbs
use Rattle.pf_script.specs.declared.call_forms.CallVerb.{CallVerb}
use Rattle.pf_script.specs.declared.call_forms.CallVerb.TheVariants as calls
use Rattle.pf_script.specs.CallForms.{call_after, call_verb_of}
use Rattle.pf_script.specs.Forms.{form_after, form_of, verb_of}
use Rattle.pf_script.specs.LineForms.{form_in}
use Rattle.pf_script.specs.Lines.{is_silent}
use Rattle.pf_text.specs.Words.{words_of}

module _ (a b c d e : List ℕ) (more : List (List ℕ)) where
  call_first : (verb : Option CallVerb) (mount : List ℕ) → call_after verb mount (a ∷ b ∷ c ∷ d ∷ e ∷ []) ≡ call_after verb mount (a ∷ b ∷ c ∷ d ∷ e ∷ more)
  call_first (Some (calls.OfPath verb)) mount = refl
  call_first (Some calls.Truncate) mount = refl
  call_first (Some calls.Rename) mount = refl
  call_first (Some calls.Write) mount = refl
  call_first (Some calls.Read) mount = refl
  call_first None mount = refl

  after_first : (verb : Option Verb) (f g : List ℕ) → form_after verb (f ∷ g ∷ a ∷ b ∷ c ∷ d ∷ e ∷ []) ≡ form_after verb (f ∷ g ∷ a ∷ b ∷ c ∷ d ∷ e ∷ more)
  after_first (Some verbs.Call) f g = call_first (call_verb_of g) f
  after_first (Some verb) f g = refl
  after_first None f g = refl

form_first : (words : List (List ℕ)) → form_of (take 8 words) ≡ form_of words
form_first (v ∷ f ∷ g ∷ a ∷ b ∷ c ∷ d ∷ e ∷ more) = after_first a b c d e more (verb_of v) f g
form_first words = refl

silent_first : (words : List (List ℕ)) → is_silent (take 8 words) ≡ is_silent words
silent_first [] = refl
silent_first ([] ∷ words) = refl
silent_first ((byte ∷ bytes) ∷ words) = refl

pub in_first : (line : List ℕ) (words : List (List ℕ)) → words ≡ take 8 (words_of line) → form_in words ≡ form_in (words_of line)
in_first line words is =
    ap form_in is
    ∙ ap (λ b. cond b None (Some (form_of (take 8 (words_of line))))) (silent_first (words_of line))
    ∙ ap (λ form. cond (is_silent (words_of line)) None (Some form)) (form_first (words_of line))
