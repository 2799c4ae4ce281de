-- Votes are read exactly.
use Rattle.std.proofs.Common.{◌≡◌, ℕ, ◌<◌, ◌^◌, true, refl, sym, subst}
use Rattle.pf_entry.specs.Canonical.{Bounds, IsCanonicalIn}
use Rattle.pf_entry.specs.declared.entries.VoteLog.{VoteLog}
use Rattle.pf_codec.specs.Parsers.{IsExact}
use Rattle.pf_codec.specs.Spelling.{vote_bytes}
use Rattle.pf_codec.specs.Reading.{vote_at}
use Rattle.pf_codec.specs.Fitting.{IsVote}
use Rattle.pf_codec.proofs.Exact.{then_exact, last_exact, checked_exact, u64_exact}
use Rattle.pf_codec.proofs.MapLaws.{IsLog, starts_exact, log_exact}

module _ (bounds : Bounds) (window : bounds.window < 2 ^ 32) where
  pub log_in : (v : VoteLog) (base : ℕ) → IsVote bounds v → v.base ≡ base → IsLog bounds window base v.log
  log_in v base is at = record { fit = is.0.log; stand = λ slot e there. subst (λ b. IsCanonicalIn bounds b slot e) at (is.1.entries slot e there) }

  pub vote_exact : IsExact (IsVote bounds) vote_bytes (vote_at bounds)
  unfolding vote_bytes vote_at
  vote_exact =
      then_exact u64_exact (IsVote bounds) (λ v. v.base) _ _ (λ v is. is.0.base) (λ base low.
      then_exact starts_exact (λ v. IsVote bounds v × (v.base ≡ base)) (λ v. v.starts) _ _ (λ v is. (is.0.0.starts, is.0.1.starts)) (λ starts are_starts.
      last_exact (log_exact bounds window base) (λ v. (IsVote bounds v × (v.base ≡ base)) × (v.starts ≡ starts)) (λ v. v.log) _ (λ v is. log_in v base is.0.0 is.0.1) (λ log is_log.
      checked_exact (λ v. ((IsVote bounds v × (v.base ≡ base)) × (v.starts ≡ starts)) × (v.log ≡ log)) (λ v. true) (record { base = base; starts = starts; log = log })
      (λ v is i. record { base = sym is.0.0.1 i; starts = sym is.0.1 i; log = sym is.1 i }) (λ v is. refl)
      (λ passes. ((((record { base = low; starts = are_starts.0; log = is_log.fit }, record { starts = are_starts.1; entries = is_log.stand }), refl), refl), refl)))))
