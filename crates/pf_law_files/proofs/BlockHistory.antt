-- What is in one block, by what was told: what was put there last, from when its ask went out.
use Rattle.std.proofs.Common.{◌≡◌, ℕ, List, [], ◌∷◌, ◌++◌, replicate, Option, Some, None, refl}
use Rattle.pf_base.specs.declared.asks.Ask.{Ask}
use Rattle.pf_entry.specs.Ops.{Sector, zero_sector}
use Rattle.pf_volume.specs.Volumes.{Extent}
use Rattle.pf_journal.specs.declared.layouts.Layout.{Layout}
use Rattle.pf_law_contents.specs.Stored.{stored_by}
use Rattle.pf_law_calls.specs.Exchanges.{pends_after, pends_in}
use Rattle.pf_law_calls.specs.Since.{pends, pends_from}
use Rattle.pf_law_calls.specs.Lives.{Life, MountTold, all_opened, lived, lives, lives_from}

-- the ask that goes out, where none was pending
abbrev pub went_out : (was now : Option Ask) → Option Ask
went_out None now = now
went_out (Some ask) now = None

module _ (chunk first : ℕ) where
  -- what is there once this is asked
  abbrev pub put_ask : List Sector → Option Ask → List Sector
  put_ask old None = old
  put_ask old (Some ask) = stored_by (λ other from. old) ask chunk first

  abbrev pub put_from : (ℕ → Life) → (last : ℕ → Option Ask) → List Sector → List MountTold → List Sector
  put_from ls last old [] = old
  put_from ls last old (t ∷ told) =
      put_from (lived ls t) (λ m. pends_in m (ls m).mount (last m) t) (put_ask old (went_out (last t.mount) (pends_after (ls t.mount).mount (last t.mount) t.input))) told

  abbrev pub put_in : Layout → Extent → List MountTold → List Sector
  put_in layout v told = put_from (all_opened layout v) (λ m. None) (replicate 8 zero_sector) told

  put_on : (ls : ℕ → Life) (last : ℕ → Option Ask) (old : List Sector) (xs ys : List MountTold) → put_from ls last old (xs ++ ys) ≡ put_from (lives_from ls xs) (λ m. pends_from ls m (last m) xs) (put_from ls last old xs) ys
  put_on ls last old [] ys = refl
  put_on ls last old (t ∷ xs) ys =
      put_on (lived ls t) (λ m. pends_in m (ls m).mount (last m) t) (put_ask old (went_out (last t.mount) (pends_after (ls t.mount).mount (last t.mount) t.input))) xs ys

  pub put_more : (layout : Layout) (v : Extent) (before : List MountTold) (t : MountTold)
      → put_in layout v (before ++ t ∷ []) ≡ put_ask (put_in layout v before) (went_out (pends layout v before t.mount) (pends_after (lives layout v before t.mount).mount (pends layout v before t.mount) t.input))
  put_more layout v before t = put_on (all_opened layout v) (λ m. None) (replicate 8 zero_sector) before (t ∷ [])
