-- What comes of a step of a mount.
use Rattle.std.proofs.Common.{◌≡◌, ℕ, List, Option, Some, None, slice_get, refl, ap}
use Rattle.std.specs.Option.{option_and_then, option_map}
use Rattle.pf_tree.specs.Calls.{FileCall}
use Rattle.pf_file_calls.specs.declared.answers.CallAnswer.{CallAnswer}
use Rattle.pf_base.specs.declared.calls.CallName.{CallName}
use Rattle.pf_base.specs.CallNames.{call_name_of}
use Rattle.pf_asks.specs.Ports.{PortIs}
use Rattle.pf_chunk.specs.Driving.{ask_at_port}
use Rattle.pf_world_moments.specs.Hosts.{ended_line}
use Rattle.pf_world_moments.specs.Parts.{call_end_text}

-- the line of a call that ended is told by its name alone
pub ended_is : (n : ℕ) (answer : CallAnswer) (call : Option FileCall) (name : Option CallName) → option_map call_name_of call ≡ name → ended_line n call answer ≡ call_end_text n name answer
ended_is n answer None name is = ap (λ (x : Option CallName). call_end_text n x answer) is
ended_is n answer (Some call) name is = ap (λ (x : Option CallName). call_end_text n x answer) is

-- a port that is quiet has no ask
pub no_ask : (ports : List PortIs) (n : ℕ) → ((port : PortIs) → slice_get ports n ≡ Some port → port.ask ≡ None) → ask_at_port ports n ≡ None
no_ask ports n quiet = by (slice_get ports n) quiet where
  by : (o : Option PortIs) → ((port : PortIs) → o ≡ Some port → port.ask ≡ None) → option_and_then (λ p. p.ask) o ≡ None
  by None its = refl
  by (Some port) its = its port refl
