-- The bytes of a read that was counted.
use Rattle.std.proofs.Common.{◌≡◌, ℕ, List, Option, Some, None, length, sym, subst}
use Rattle.std.specs.Prelude.{IfSome}
use Rattle.std.specs.Option.{option_map}
use Rattle.pf_base.specs.Asks.{Answers}
use Rattle.pf_base.specs.declared.asks.Ask.{Ask}
use Rattle.pf_base.specs.declared.asks.Ask.TheVariants.{Write, Read}
use Rattle.pf_base.specs.declared.asks.Reply.{Reply}
use Rattle.pf_base.specs.declared.asks.Reply.TheVariants.{Bytes}
use Rattle.pf_asks.specs.declared.port.Sent.TheVariants.{Number}
use Rattle.pf_asks.specs.Ports.{ReadIsCounted, IsSentOf}

module _ (counts : ℕ → ℕ → Type 0) (number : ℕ) where
  abbrev pub IsWhole : Option (List (List ℕ)) → Type 0
  IsWhole answer = IfSome answer (λ sectors. (count : ℕ) → counts number count → length sectors ≡ count)

  abbrev pub IsWholeReply : Option Reply → Type 0
  IsWholeReply reply = IfSome reply (λ r. (ask : Ask) → IsSentOf (Some ask) (Some (Number number)) → ReadIsCounted counts (Some (Number number)) (Some ask) → Answers ask r)

  whole_answer : (ask : Ask) (sectors : List (List ℕ)) → IsWhole (Some sectors) → IsSentOf (Some ask) (Some (Number number)) → ReadIsCounted counts (Some (Number number)) (Some ask) → Answers ask (Bytes sectors)
  whole_answer (Write chunk span payload) sectors whole sent is = absurd sent
  whole_answer (Read chunk span) sectors whole sent is = whole span.count is

  by : (answer : Option (List (List ℕ))) → IsWhole answer → IsWholeReply (option_map Bytes answer)
  by None whole = tt
  by (Some sectors) whole = λ ask sent is. whole_answer ask sectors whole sent is

  -- the reply of an answer that is as its range wants it
  pub whole_reply : (answer : Option (List (List ℕ))) (reply : Option Reply) → reply ≡ option_map Bytes answer → IsWhole answer → IsWholeReply reply
  whole_reply answer reply same whole = subst IsWholeReply (sym same) (by answer whole)
