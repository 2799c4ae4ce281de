-- What one call of a disk that records its calls may leave.
use Rattle.std.proofs.Common.{◌≡◌, ℕ, min, List, length, refl, sym, ◌∙◌, ap, subst}
use Rattle.pf_disk.specs.declared.tape.TapeRecord.{TapeRecord}
use Rattle.pf_disk.specs.declared.tape.Tape.{Tape}
use Rattle.pf_disk.specs.Crashes.{Torn, Cut, ImagesFollow, KeepsImages, Only, Elapses}
use Rattle.pf_disk.specs.Files.{end_of_write}
use Rattle.pf_disk.specs.Recorded.{State, IsCrashImage, LeftSince, settled, after_write, after_cut, after_failed_write, after_failed_cut}
use Rattle.pf_disk.specs.Tapes.{state_of_tape, Adds}
use Rattle.pf_disk.proofs.Images.{image_of, only_file, settled_keeps, write_follows, cut_follows, of_written, of_cut}
use Rattle.pf_disk.proofs.Moments.{goes_on}

state_image : (tape : Tape) → IsCrashImage (state_of_tape tape) (state_of_tape tape).file
state_image tape = image_of tape.base.items tape.records.items tape.written.items (state_of_tape tape).file refl

-- begun is the tape as the call has begun, which is as it was; now is as the call ends
module _ (old begun new now : Tape) (is_begun : begun ≡ old) (is_now : now ≡ new) where
  pub time : (last : TapeRecord) (bytes : List ℕ) → Adds begun new last bytes
      → Elapses (length old.records.items) (length now.records.items) (LeftSince old.base.items old.records.items old.written.items) (LeftSince now.base.items now.records.items now.written.items) (IsCrashImage (state_of_tape now))
  time last bytes adds =
      let Goes : Tape → Tape → Type 0 = λ a b.
      Elapses (length a.records.items) (length b.records.items) (LeftSince a.base.items a.records.items a.written.items) (LeftSince b.base.items b.records.items b.written.items) (IsCrashImage (state_of_tape b)) in
      subst (λ (a : Tape). Goes a now) is_begun (subst (λ (b : Tape). Goes begun b) (sym is_now) (goes_on begun new last bytes adds))

  pub failed_write : (at count : ℕ) → state_of_tape new ≡ after_failed_write (state_of_tape begun) at count → ImagesFollow (Torn (min (length old.bytes.items) at) (end_of_write at count)) (IsCrashImage (state_of_tape old)) (IsCrashImage (state_of_tape now))
  failed_write at count is c left =
      let state : state_of_tape now ≡ after_failed_write (state_of_tape old) at count = ap state_of_tape is_now ∙ is ∙ ap (λ (t : Tape). after_failed_write (state_of_tape t) at count) is_begun in
      let from = write_follows (state_of_tape old) at count (state_image old) c (subst (λ (s : State). IsCrashImage s c) state left) in
      subst (λ (file : List ℕ). (x : List ℕ) × IsCrashImage (state_of_tape old) x × Torn (min (length file) at) (end_of_write at count) x c) old.reads from

  pub write : (at : ℕ) (bytes : List ℕ) → state_of_tape new ≡ after_write (state_of_tape begun) at bytes → ImagesFollow (Torn (min (length old.bytes.items) at) (end_of_write at (length bytes))) (IsCrashImage (state_of_tape old)) (IsCrashImage (state_of_tape now))
  write at bytes is c left =
      let state : state_of_tape now ≡ after_write (state_of_tape old) at bytes = ap state_of_tape is_now ∙ is ∙ ap (λ (t : Tape). after_write (state_of_tape t) at bytes) is_begun in
      let from = write_follows (state_of_tape old) at (length bytes) (state_image old) c (of_written (state_of_tape old) at bytes c (subst (λ (s : State). IsCrashImage s c) state left)) in
      subst (λ (file : List ℕ). (x : List ℕ) × IsCrashImage (state_of_tape old) x × Torn (min (length file) at) (end_of_write at (length bytes)) x c) old.reads from

  pub failed_cut : (len : ℕ) → state_of_tape new ≡ after_failed_cut (state_of_tape begun) len → ImagesFollow (Cut (length old.bytes.items) len) (IsCrashImage (state_of_tape old)) (IsCrashImage (state_of_tape now))
  failed_cut len is c left =
      let state : state_of_tape now ≡ after_failed_cut (state_of_tape old) len = ap state_of_tape is_now ∙ is ∙ ap (λ (t : Tape). after_failed_cut (state_of_tape t) len) is_begun in
      let from = cut_follows (state_of_tape old) len (state_image old) c (subst (λ (s : State). IsCrashImage s c) state left) in
      subst (λ (file : List ℕ). (x : List ℕ) × IsCrashImage (state_of_tape old) x × Cut (length file) len x c) old.reads from

  pub cut : (len : ℕ) → state_of_tape new ≡ after_cut (state_of_tape begun) len → ImagesFollow (Cut (length old.bytes.items) len) (IsCrashImage (state_of_tape old)) (IsCrashImage (state_of_tape now))
  cut len is c left =
      let state : state_of_tape now ≡ after_cut (state_of_tape old) len = ap state_of_tape is_now ∙ is ∙ ap (λ (t : Tape). after_cut (state_of_tape t) len) is_begun in
      let from = cut_follows (state_of_tape old) len (state_image old) c (of_cut (state_of_tape old) len c (subst (λ (s : State). IsCrashImage s c) state left)) in
      subst (λ (file : List ℕ). (x : List ℕ) × IsCrashImage (state_of_tape old) x × Cut (length file) len x c) old.reads from

  pub durable : state_of_tape new ≡ settled (state_of_tape begun).file → Only old.bytes.items (IsCrashImage (state_of_tape now))
  durable is c left =
      let state : state_of_tape now ≡ settled (state_of_tape old).file = ap state_of_tape is_now ∙ is ∙ ap (λ (t : Tape). settled (state_of_tape t).file) is_begun in
      only_file (state_of_tape old).file c (subst (λ (s : State). IsCrashImage s c) state left) ∙ old.reads

  pub kept : state_of_tape new ≡ settled (state_of_tape begun).file → KeepsImages (IsCrashImage (state_of_tape old)) (IsCrashImage (state_of_tape now))
  kept is c left =
      let state : state_of_tape now ≡ settled (state_of_tape old).file = ap state_of_tape is_now ∙ is ∙ ap (λ (t : Tape). settled (state_of_tape t).file) is_begun in
      settled_keeps (state_of_tape old) (state_of_tape old).file c (state_image old) (subst (λ (s : State). IsCrashImage s c) state left)
