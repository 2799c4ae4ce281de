-- A list of disks that grows at its end.
use Rattle.std.proofs.Common.{◌≡◌, ℕ, zero, suc, ◌⊎◌, inl, inr, List, [], ◌∷◌, ◌++◌, length, Some, slice_get, refl, sym, ap, subst}
use Rattle.std.specs.List.{All}
use Rattle.std.specs.Path.{path_join}
use Rattle.std.specs.declared.fs.options.OpenOptions.{OpenOptions}
use Rattle.std.proofs.lemmas.List.Elements.{All-append, All-cons, All-nil}
use Rattle.std.proofs.lemmas.Option.{same_Some, none-some}
use Rattle.pf_disk_file.specs.Opened.{IsDiskOf}
use Rattle.pf_disk_file.specs.declared.file.FileDisk.{FileDisk}
use Rattle.pf_disk_file.specs.Files.{AreFilesOf, file_name}

-- an element of a list with one more
get_more : {X : Type 0} (xs : List X) (x : X) (k : ℕ) (y : X) → slice_get (xs ++ x ∷ []) k ≡ Some y → (slice_get xs k ≡ Some y) ⊎ ((k ≡ length xs) × (y ≡ x))
get_more [] x zero y is = inr (refl, sym (same_Some x y is))
get_more [] x (suc k) y is = absurd (none-some y is)
get_more (z ∷ zs) x zero y is = inl is
get_more (z ∷ zs) x (suc k) y is = elim (get_more zs x k y is) [ inl there ↦ inl there | inr last ↦ inr (ap suc last.0, last.1) ]

-- none of the disks has failed yet
abbrev pub AreSound : {F : Type 0} → List (FileDisk F) → Type 0
AreSound disks = All (λ d. d.faults ≡ 0) disks

pub sound_more : {F : Type 0} (disks : List (FileDisk F)) (disk : FileDisk F) → disk.faults ≡ 0 → AreSound disks → AreSound (disks ++ disk ∷ [])
sound_more disks disk sound all = All-append (λ d. d.faults ≡ 0) disks (disk ∷ []) all (All-cons (λ d. d.faults ≡ 0) disk [] sound (All-nil (λ d. d.faults ≡ 0)))

module _ {F : Type 0} (opens : OpenOptions → List ℕ → F → Type 0) (folder : List ℕ) where
  abbrev IsFileAt : ℕ → FileDisk F → Type 0
  IsFileAt place disk = IsDiskOf opens (path_join folder (file_name place)) disk

  -- the disk of the next file comes
  pub files_more : (path : List ℕ) (disks : List (FileDisk F)) (disk : FileDisk F) (place : ℕ) → length disks ≡ place → path ≡ path_join folder (file_name place) → IsDiskOf opens path disk → AreFilesOf opens folder disks → AreFilesOf opens folder (disks ++ disk ∷ [])
  files_more path disks disk place count named over before k d at =
      let here : IsFileAt place disk = subst (λ (p : List ℕ). IsDiskOf opens p disk) named over in
      elim (get_more disks disk k d at) [
        | inl there ↦ before k d there
        | inr last ↦ subst (IsFileAt k) (sym last.1) (subst (λ (n : ℕ). IsFileAt n disk) (sym (last.0)) (subst (λ (n : ℕ). IsFileAt n disk) (sym count) here))
      ]
