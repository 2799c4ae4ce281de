-- The bodies of images that end in zeros.
use Rattle.std.proofs.Common.{◌≡◌, ℕ, ◌+◌, List, [], ◌∷◌, ◌++◌, length, replicate, append_assoc, length-append, sym, ap, ◌∙◌}
use Rattle.std.specs.Int.{w32, to_be_bytes}
use Rattle.std.proofs.lemmas.List.{length-replicate, replicate-append-replicate}
use Rattle.pf_chunklog.specs.Records.{body_of}

-- the payload up to its sectors: generation, term, base, no starts, slots or entries, and 16
abbrev pub front : ℕ → ℕ → List ℕ
front generation term =
    0 ∷ 0 ∷ 0 ∷ 0 ∷ 0 ∷ 0 ∷ 0 ∷ generation ∷ 0 ∷ 0 ∷ 0 ∷ 0 ∷ 0 ∷ 0 ∷ 0 ∷ term ∷ 0 ∷ 0 ∷ 0 ∷ 0 ∷ 0 ∷ 0 ∷ 0 ∷ 0 ∷ 0 ∷ 0 ∷ 0 ∷ 0 ∷ 0 ∷ 0 ∷ 0 ∷ 0 ∷ 0 ∷ 0 ∷ 0 ∷ 0 ∷ 0 ∷ 16 ∷ []

-- the body with so many zeros behind that
abbrev pub body : (generation term zeros : ℕ) → List ℕ
body generation term zeros = 1 ∷ 0 ∷ 0 ∷ 32 ∷ 38 ∷ front generation term ++ replicate zeros 0

one_more : (xs : List ℕ) (zeros : ℕ) → (xs ++ replicate zeros 0) ++ 0 ∷ [] ≡ xs ++ replicate (zeros + 1) 0
one_more xs zeros = append_assoc xs (replicate zeros 0) (0 ∷ []) ∙ ap (λ ys. xs ++ ys) (replicate-append-replicate zeros 1 0)

pub body_more : (generation term zeros : ℕ) (old new : List ℕ) → old ≡ body generation term zeros → new ≡ old ++ 0 ∷ [] → new ≡ body generation term (zeros + 1)
body_more generation term zeros old new was is = is ∙ ap (λ xs. xs ++ 0 ∷ []) was ∙ one_more (1 ∷ 0 ∷ 0 ∷ 32 ∷ 38 ∷ front generation term) zeros

long : (generation term zeros : ℕ) → length (front generation term ++ replicate zeros 0) ≡ 38 + zeros
long generation term zeros = length-append (front generation term) (replicate zeros 0) ∙ ap (λ n. 38 + n) (length-replicate zeros 0)

spelled_by : (kind zeros : ℕ) (size xs : List ℕ) → size ≡ to_be_bytes w32 (length (xs ++ replicate zeros 0)) → kind ∷ (size ++ (xs ++ replicate (zeros + 1) 0)) ≡ body_of (kind, xs ++ replicate zeros 0)
spelled_by kind zeros size xs sized =
    ap (λ bytes. kind ∷ (bytes ++ (xs ++ replicate (zeros + 1) 0))) sized
    ∙ ap (λ ys. kind ∷ (to_be_bytes w32 (length (xs ++ replicate zeros 0)) ++ ys)) (sym (one_more xs zeros))

-- 16 sectors and the closed gate of the next record make it a record's body
pub body_is : (generation term : ℕ) (bytes : List ℕ) → bytes ≡ body generation term 8193 → bytes ≡ body_of (1, front generation term ++ replicate 8192 0)
body_is generation term bytes is = is ∙ spelled_by 1 8192 (0 ∷ 0 ∷ 32 ∷ 38 ∷ []) (front generation term) (ap (to_be_bytes w32) (sym (long generation term 8192)))

pub body_size : (generation term : ℕ) (bytes : List ℕ) → bytes ≡ body generation term 8193 → length bytes ≡ 8236
body_size generation term bytes is = ap length is ∙ ap (λ n. 5 + n) (long generation term 8193)
