-- A text that is read byte by byte.
use Rattle.std.proofs.Common.{◌≡◌, ℕ, ◌+◌, ◌<◌, ◌≤◌, Bool, true, false, ◌&&◌, ◌||◌, nat_lt, cond, List, [], ◌∷◌, ◌++◌, length, Option, Some, None, Result, Ok, Err, refl, ap, sym, ◌∙◌, ◌⊎◌, inl, inr, arith, append_assoc, append-nil, length-append}
use Rattle.std.proofs.lemmas.Bool.Decides.{nat_tests}
use Rattle.std.specs.List.{slice_split, onto_first}
use Rattle.pf_script.specs.declared.command.LineFault.{LineFault}
use Rattle.pf_script.specs.declared.command.LineFault.TheVariants.{LineTooLong, TooManyLines}
use Rattle.pf_run_lines.specs.LineScans.{LineRules, Scanned, Open, Refused, is_feed, read_line, over_fault, is_line_over, after, begun_with, onto, went, scan_from, scan_pieces, scan, fed, fed_all, fed_line}

pub cases_bool : (b : Bool) → (b ≡ true) ⊎ (b ≡ false)
cases_bool true = inl refl
cases_bool false = inr refl

-- pieces after one byte more
abbrev pub ext_first : ℕ → List ℕ → List (List ℕ) → List ℕ
ext_first b p [] = cond (is_feed b) p (p ++ b ∷ [])
ext_first b p (q ∷ qs) = p

abbrev pub ext_rest : ℕ → List ℕ → List (List ℕ) → List (List ℕ)
ext_rest b p [] = cond (is_feed b) ([] ∷ []) []
ext_rest b p (q ∷ qs) = ext_first b q qs ∷ ext_rest b q qs

abbrev pub ext : ℕ → List (List ℕ) → List (List ℕ)
ext b [] = []
ext b (p ∷ ps) = ext_first b p ps ∷ ext_rest b p ps

cond_cons : {A : Type 0} (f : Bool) (x y : A) (r s : List A) → cond f (x ∷ r) (y ∷ s) ≡ cond f x y ∷ cond f r s
cond_cons true x y r s = refl
cond_cons false x y r s = refl

cons_cond : {A : Type 0} (f : Bool) (x : A) (p q : List A) → x ∷ cond f p q ≡ cond f (x ∷ p) (x ∷ q)
cons_cond true x p q = refl
cons_cond false x p q = refl

ext_onto : (x b : ℕ) (p : List ℕ) (ps : List (List ℕ)) → (x ∷ ext_first b p ps) ∷ ext_rest b p ps ≡ ext_first b (x ∷ p) ps ∷ ext_rest b (x ∷ p) ps
ext_onto x b p [] = ap (λ (l : List ℕ). l ∷ cond (is_feed b) ([] ∷ []) []) (cons_cond (is_feed b) x p (p ++ b ∷ []))
ext_onto x b p (q ∷ qs) = refl

ext_cond : (f : Bool) (x b : ℕ) (ps : List (List ℕ)) → 0 < length ps → cond f ([] ∷ ext b ps) (onto_first x (ext b ps)) ≡ ext b (cond f ([] ∷ ps) (onto_first x ps))
ext_cond f x b [] some = absurd (omega arith)
ext_cond true x b (p ∷ ps) some = refl
ext_cond false x b (p ∷ ps) some = ext_onto x b p ps

onto_some : (f : Bool) (x : ℕ) (ps : List (List ℕ)) → 0 < length (cond f ([] ∷ ps) (onto_first x ps))
onto_some true x ps = omega arith
onto_some false x [] = omega arith
onto_some false x (p ∷ ps) = omega arith

split_some : (xs : List ℕ) → 0 < length (slice_split is_feed xs)
split_some [] = omega arith
split_some (x ∷ xs) = onto_some (is_feed x) x (slice_split is_feed xs)

split_more : (b : ℕ) (xs : List ℕ) → slice_split is_feed (xs ++ b ∷ []) ≡ ext b (slice_split is_feed xs)
split_more b [] = cond_cons (is_feed b) [] (b ∷ []) ([] ∷ []) []
split_more b (x ∷ xs) =
    ap (λ (q : List (List ℕ)). cond (is_feed x) ([] ∷ q) (onto_first x q)) (split_more b xs)
    ∙ ext_cond (is_feed x) x b (slice_split is_feed xs) (split_some xs)

-- a line that is over is refused once it is whole
or_right : (a b c : Bool) → a ≡ false → (a && b || c) ≡ true → c ≡ true
or_right true b c h k = absurd (cc)
or_right false b c h k = k

over_len : (n l m : ℕ) → l ≤ m → ((nat_lt 100000 n && nat_lt 0 l) || nat_lt 1024 l) ≡ true → ((nat_lt 100000 n && nat_lt 0 m) || nat_lt 1024 m) ≡ true
over_len n l m le h = grind (arith, nat_tests)

over_more : (n : ℕ) (p : List ℕ) (b : ℕ) → is_line_over n p ≡ true → is_line_over n (p ++ b ∷ []) ≡ true
over_more n p b over = over_len n (length p) (length (p ++ b ∷ [])) (omega (arith, length-append p (b ∷ []))) over

nil_over : (n : ℕ) → is_line_over n [] ≡ false
nil_over n = grind (arith, nat_tests)

module _ {S I : Type 0} (rules : LineRules S I) where
  pub over_read : (n : ℕ) (v : S) (p : List ℕ) → is_line_over n p ≡ true → read_line rules n v p ≡ Err (over_fault n)
  over_read n v p over =
      elim (cases_bool (nat_lt 100000 n)) [
        | inl big ↦ ap (λ b. cond b (Err TooManyLines) (cond (nat_lt 1024 (length p)) (Err LineTooLong) (rules.says n v p))) big ∙ sym (ap (λ b. Err (cond b TooManyLines LineTooLong)) big)
        | inr few ↦
            let long : nat_lt 1024 (length p) ≡ true = or_right (nat_lt 100000 n) (nat_lt 0 (length p)) (nat_lt 1024 (length p)) few over in
            ap (λ b. cond b (Err TooManyLines) (cond (nat_lt 1024 (length p)) (Err LineTooLong) (rules.says n v p))) few ∙ ap (λ b. cond b (Err LineTooLong) (rules.says n v p)) long
            ∙ sym (ap (λ b. Err (cond b TooManyLines LineTooLong)) few)
      ]

  onto_if : (n : ℕ) (c : I) (lines : List I) (m : ℕ) (v : S) (more : List ℕ) (f g : Bool) (why : LineFault) (r : Result (Option I) LineFault)
      → onto (Some c) (cond f (fed_line rules lines m v r) (cond g (Refused m why) (Open lines m v more)))
      ≡ cond f (fed_line rules (c ∷ lines) m v r) (cond g (Refused m why) (Open (c ∷ lines) m v more))
  onto_if n c lines m v more true g why (Err fault) = refl
  onto_if n c lines m v more true g why (Ok command) = refl
  onto_if n c lines m v more false true why r = refl
  onto_if n c lines m v more false false why r = refl

  went_fed : (n : ℕ) (r : Result (Option I) LineFault) (x : Scanned S I) (b : ℕ) → went n r (fed rules x b) ≡ fed rules (went n r x) b
  went_fed n (Err f) x b = refl
  went_fed n (Ok None) x b = refl
  went_fed n (Ok (Some c)) (Refused l f) b = refl
  went_fed n (Ok (Some c)) (Open lines m v begun) b = onto_if n c lines m v (begun ++ b ∷ []) (is_feed b) (is_line_over m (begun ++ b ∷ [])) (over_fault m) (read_line rules m v begun)

  -- a line that a feed ends
  went_line : (n : ℕ) (v : S) (r : Result (Option I) LineFault) → went n r (Open [] (n + 1) (after rules v r) []) ≡ fed_line rules [] n v r
  went_line n v (Err fault) = refl
  went_line n v (Ok None) = refl
  went_line n v (Ok (Some c)) = refl

  last_feed : (n : ℕ) (v : S) (p : List ℕ) (b : ℕ) → is_feed b ≡ true → (is_line_over n p ≡ true) ⊎ (is_line_over n p ≡ false) → scan_from rules n v (ext_first b p []) (ext_rest b p []) ≡ fed rules (begun_with n v p) b
  last_feed n v p b feed over =
      ap (λ f. scan_from rules n v (cond f p (p ++ b ∷ [])) (cond f ([] ∷ []) [])) feed
      ∙ ap (λ o. went n (read_line rules n v p) (cond o (Refused (n + 1) (over_fault (n + 1))) (Open [] (n + 1) (after rules v (read_line rules n v p)) []))) (nil_over (n + 1))
      ∙ elim over [
        | inl is ↦
            ap (λ r. went n r (Open [] (n + 1) (after rules v r) [])) (over_read n v p is)
            ∙ sym (ap (λ o. fed rules (cond o (Refused n (over_fault n)) (Open [] n v p)) b) is)
        | inr isnt ↦
            went_line n v (read_line rules n v p)
            ∙ sym (ap (λ f. cond f (fed_line rules [] n v (read_line rules n v p)) (cond (is_line_over n (p ++ b ∷ [])) (Refused n (over_fault n)) (Open [] n v (p ++ b ∷ [])))) feed)
            ∙ sym (ap (λ o. fed rules (cond o (Refused n (over_fault n)) (Open [] n v p)) b) isnt)
      ]

  last_other : (n : ℕ) (v : S) (p : List ℕ) (b : ℕ) → is_feed b ≡ false → (is_line_over n p ≡ true) ⊎ (is_line_over n p ≡ false) → scan_from rules n v (ext_first b p []) (ext_rest b p []) ≡ fed rules (begun_with n v p) b
  last_other n v p b other over =
      ap (λ f. scan_from rules n v (cond f p (p ++ b ∷ [])) (cond f ([] ∷ []) [])) other
      ∙ elim over [
        | inl is ↦
            ap (λ o. cond o (Refused n (over_fault n)) (Open [] n v (p ++ b ∷ []))) (over_more n p b is)
            ∙ sym (ap (λ o. fed rules (cond o (Refused n (over_fault n)) (Open [] n v p)) b) is)
        | inr isnt ↦
            sym (ap (λ f. cond f (fed_line rules [] n v (read_line rules n v p)) (cond (is_line_over n (p ++ b ∷ [])) (Refused n (over_fault n)) (Open [] n v (p ++ b ∷ [])))) other)
            ∙ sym (ap (λ o. fed rules (cond o (Refused n (over_fault n)) (Open [] n v p)) b) isnt)
      ]

  last_fed : (n : ℕ) (v : S) (p : List ℕ) (b : ℕ) → scan_from rules n v (ext_first b p []) (ext_rest b p []) ≡ fed rules (begun_with n v p) b
  last_fed n v p b =
      elim (cases_bool (is_feed b)) [
        | inl feed ↦ last_feed n v p b feed (cases_bool (is_line_over n p))
        | inr other ↦ last_other n v p b other (cases_bool (is_line_over n p))
      ]

  from_fed : (n : ℕ) (v : S) (p : List ℕ) (ps : List (List ℕ)) (b : ℕ) → scan_from rules n v (ext_first b p ps) (ext_rest b p ps) ≡ fed rules (scan_from rules n v p ps) b
  from_fed n v p [] b = last_fed n v p b
  from_fed n v p (q ∷ qs) b =
      ap (went n (read_line rules n v p)) (from_fed (n + 1) (after rules v (read_line rules n v p)) q qs b) ∙ went_fed n (read_line rules n v p) (scan_from rules (n + 1) (after rules v (read_line rules n v p)) q qs) b

  pub refused_all : (line : ℕ) (fault : LineFault) (ys : List ℕ) → fed_all rules (Refused line fault) ys ≡ Refused line fault
  refused_all line fault [] = refl
  refused_all line fault (y ∷ ys) = refused_all line fault ys

  -- what a refused byte leads to
  pub fed_refused : (s : Scanned S I) (b : ℕ) (ys : List ℕ) (line : ℕ) (fault : LineFault) → fed rules s b ≡ Refused line fault → fed_all rules s (b ∷ ys) ≡ Refused line fault
  fed_refused s b ys line fault h = ap (λ t. fed_all rules t ys) h ∙ refused_all line fault ys

module _ {S I : Type 0} (rules : LineRules S I) (start : S) where
  pieces_fed : (ps : List (List ℕ)) (b : ℕ) → 0 < length ps → scan_pieces rules start (ext b ps) ≡ fed rules (scan_pieces rules start ps) b
  pieces_fed [] b some = absurd (omega arith)
  pieces_fed (p ∷ ps) b some = from_fed rules 1 start p ps b

  scan_more : (xs : List ℕ) (b : ℕ) → scan rules start (xs ++ b ∷ []) ≡ fed rules (scan rules start xs) b
  unfolding scan
  scan_more xs b = ap (scan_pieces rules start) (split_more b xs) ∙ pieces_fed (slice_split is_feed xs) b (split_some xs)

  pub scan_append : (xs ys : List ℕ) → scan rules start (xs ++ ys) ≡ fed_all rules (scan rules start xs) ys
  scan_append xs [] = ap (scan rules start) (append-nil xs)
  scan_append xs (y ∷ ys) = ap (scan rules start) (sym (append_assoc xs (y ∷ []) ys)) ∙ scan_append (xs ++ y ∷ []) ys ∙ ap (λ s. fed_all rules s ys) (scan_more xs y)

  pub scan_none : scan rules start [] ≡ Open [] 1 start []
  unfolding scan
  scan_none = refl
