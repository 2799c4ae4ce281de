-- What a line says has its numbers in their ranges.
use Rattle.std.proofs.Common.{◌≡◌, ℕ, ◌≤◌, Bool, true, false, cond, nat_lt, List, length, Option, Some, None, Result, Ok, Err, IfOk, IsTrue, refl, subst, arith}
use Rattle.std.proofs.lemmas.Bool.Decides.{nat_tests}
use Rattle.std.specs.Option.{ForSome}
use Rattle.pf_script.specs.declared.command.Command.{Command}
use Rattle.pf_script.specs.declared.command.Command.TheVariants as commands
use Rattle.pf_script.specs.declared.command.LineFault.{LineFault}
use Rattle.pf_script.specs.declared.command.LineFault.TheVariants.{OutOfRange, LineTooLong}
use Rattle.pf_script.specs.declared.form.ServerVerb.TheVariants.{Elect}
use Rattle.pf_script.specs.declared.form.PacketVerb.TheVariants.{Deliver}
use Rattle.pf_script.specs.declared.form.Form.{Form}
use Rattle.pf_script.specs.declared.form.Form.TheVariants as forms
use Rattle.pf_script.specs.declared.named.NamedVolume.{NamedVolume}
use Rattle.pf_script.specs.Forms.{form_of, ◌>>=◌}
use Rattle.pf_text.specs.Words.{words_of, trimmed}
use Rattle.pf_script.specs.Lines.{fits, placed, command_from, is_silent, command_of, said_by_line, volume_after, LineGives, is_in_range, fits_volume, first_named, one_more_group}

-- lines may name 8 chunks and groups at most
abbrev pub Few : Option NamedVolume → Type 0
Few volume = ForSome volume (λ named. (named.chunks ≤ 8) × (named.groups ≤ 8))

-- in some volume, and in the one that the script has by then
pub record Suits (volume : Option NamedVolume) (command : Option Command) : Type 0 where
  pub somewhere : IsTrue (is_in_range command)
  pub here : IsTrue (fits_volume (volume_after volume command) command)

-- a range that holds in a small volume holds in the largest
wider : (n : NamedVolume) (command : Command) → (n.chunks ≤ 8) × (n.groups ≤ 8) → fits n command ≡ true → fits (first_named 8) command ≡ true
wider n (commands.Volume c s m f) le h = h
wider n command le h = grind (arith, nat_tests, le.0, le.1)

checked : (fit : Bool) (command : Command) (P : Command → Type 0) → (fit ≡ true → P command) → IfOk (cond fit (Ok command) (Err OutOfRange)) P
checked true command P holds = holds refl
checked false command P holds = tt

pub placed_suits : (volume : Option NamedVolume) (form : Form) → Few volume → IfOk (placed volume form) (λ command. Suits volume (Some command))
placed_suits None (forms.Volume c s n f) few =
    checked (fits (first_named c) (commands.Volume c s n f)) (commands.Volume c s n f) (λ command. Suits None (Some command)) (λ h. record { somewhere = h; here = h })
placed_suits None form few = tt
placed_suits (Some n) (forms.Volume c s m f) few = tt
placed_suits (Some n) (forms.OfServer Elect g i) few =
    checked (fits n (commands.Elect g i)) (commands.Elect g i) (λ command. Suits (Some n) (Some command)) (λ h. record { somewhere = wider n (commands.Elect g i) (few n refl) h; here = h })
placed_suits (Some n) (forms.OfPacket Deliver g k) few =
    checked (fits n (commands.Deliver g k)) (commands.Deliver g k) (λ command. Suits (Some n) (Some command)) (λ h. record { somewhere = wider n (commands.Deliver g k) (few n refl) h; here = h })
placed_suits (Some n) form few =
    checked (fits n (command_from form)) (command_from form) (λ command. Suits (Some n) (Some command)) (λ h. record { somewhere = wider n (command_from form) (few n refl) h; here = h })

said : (volume : Option NamedVolume) (command : Result Command LineFault) → IfOk command (λ c. Suits volume (Some c)) → IfOk (command >>= λ c. Ok (Some c)) (Suits volume)
said volume (Ok command) h = h
said volume (Err fault) h = tt

formed : (volume : Option NamedVolume) (form : Result Form LineFault) → Few volume → IfOk (form >>= λ f. placed volume f >>= λ c. Ok (Some c)) (Suits volume)
formed volume (Ok form) few = said volume (placed volume form) (placed_suits volume form few)
formed volume (Err fault) few = tt

spoken : (silent : Bool) (volume : Option NamedVolume) (said : Result (Option Command) LineFault) → IfOk said (Suits volume) → IfOk (cond silent (Ok None) said) (Suits volume)
spoken true volume said h = record { somewhere = refl; here = refl }
spoken false volume said h = h

short : (long : Bool) (volume : Option NamedVolume) (said : Result (Option Command) LineFault) → IfOk said (Suits volume) → IfOk (cond long (Err LineTooLong) said) (Suits volume)
short true volume said h = tt
short false volume said h = h

line_suits : (volume : Option NamedVolume) (line : List ℕ) → Few volume → IfOk (said_by_line volume line) (Suits volume)
line_suits volume line few =
    let words = words_of (trimmed line) in
    short (nat_lt 1024 (length line)) volume (command_of volume words)
    (spoken (is_silent words) volume (form_of words >>= λ f. placed volume f >>= λ c. Ok (Some c)) (formed volume (form_of words) few))

pub given : (volume : Option NamedVolume) (line : List ℕ) (result : Result (Option Command) LineFault) → Few volume → LineGives (said_by_line volume line) result → IfOk result (Suits volume)
given volume line (Ok command) few is = subst (λ r. IfOk r (Suits volume)) is (line_suits volume line few)
given volume line (Err fault) few is = tt

-- and so it is behind each line
pub few_after : (volume : Option NamedVolume) (command : Option Command) → Few volume → IsTrue (is_in_range command) → Few (volume_after volume command)
few_after volume (Some (commands.Volume c s m f)) few h = λ n is.
    let same : first_named c ≡ n = cc in
    let low : c ≤ 8 = grind (arith, nat_tests) in
    subst (λ (named : NamedVolume). (named.chunks ≤ 8) × (named.groups ≤ 8)) same (low, low)
few_after None None few h = few
few_after (Some named) None few h = few
few_after None (Some command) few h = few
few_after (Some named) (Some (commands.Move c)) few h = λ n is.
    let same : one_more_group named ≡ n = cc in
    subst (λ (its : NamedVolume). (its.chunks ≤ 8) × (its.groups ≤ 8)) same ((few named refl).0, grind arith)
few_after (Some named) (Some command) few h = few
