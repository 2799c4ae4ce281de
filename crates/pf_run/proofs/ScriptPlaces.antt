-- In an accepted script the volume comes first, and each later line may be run in it.
use Rattle.std.proofs.Common.{◌≡◌, ℕ, ◌+◌, ◌<◌, ◌≤◌, nat_lt, Bool, true, false, cond, length, append-nil, List, [], ◌∷◌, ◌++◌, Option, Some, None, Result, Ok, Err, IfOk, refl, sym, ap, subst, ◌∙◌, arith}
use Rattle.std.proofs.lemmas.Bool.Decides.{nat_tests}
use Rattle.std.proofs.lemmas.List.{length-append}
use Rattle.pf_script.specs.declared.command.Command.{Command}
use Rattle.pf_script.specs.declared.command.Command.TheVariants as commands
use Rattle.pf_script.specs.declared.command.LineFault.{LineFault}
use Rattle.pf_script.specs.declared.command.LineFault.TheVariants.{LineTooLong, OutOfRange, TooManyLines}
use Rattle.pf_script.specs.declared.form.ServerVerb.{ServerVerb}
use Rattle.pf_script.specs.declared.form.ServerVerb.TheVariants.{Elect, Resend, Stop, Restart, Checkpoint, Mark, ShowLog, ShowApplied, ShowSectors}
use Rattle.pf_script.specs.declared.form.PacketVerb.{PacketVerb}
use Rattle.pf_script.specs.declared.form.PacketVerb.TheVariants.{Deliver, Lose}
use Rattle.pf_script.specs.declared.form.Form.{Form}
use Rattle.pf_script.specs.declared.form.Form.TheVariants as forms
use Rattle.pf_script.specs.Calls.{call_from}
use Rattle.pf_text.specs.Words.{words_of, trimmed}
use Rattle.pf_script.specs.Forms.{form_of, ◌>>=◌}
use Rattle.pf_script.specs.declared.named.NamedVolume.{NamedVolume}
use Rattle.pf_script.specs.Lines.{command_of, first_named, fits, is_silent, is_volume, said_by_line, named_after, placed, volume_after}
use Rattle.pf_world.specs.declared.line.Line.{Line}
use Rattle.pf_world.specs.Steps.{MayRun, MayRunAll}
use Rattle.pf_run_lines.specs.LineScans.{Scanned, Open, Refused, close, ended, fed, fed_all, fed_line, is_feed, is_line_over, last_line, over_fault, read_line, said_list, scan}
use Rattle.pf_run.specs.Scripts.{JudgedScript, numbered_line, script_of, script_rules, volume_behind}
use Rattle.pf_run.specs.Placed.{MakesVolume, ScriptIsWhole}
use Rattle.pf_run_lines.proofs.TextBytes.{scan_append, scan_none}

-- what may come next: the volume where there is none yet, and then what may be run in it
abbrev MayCome : Option NamedVolume → Command → Type 0
MayCome None (commands.Volume c s n f) = is_volume c s n f ≡ true
MayCome None command = ⊥
MayCome (Some named) command = MayRun named command

abbrev MayStand : Option NamedVolume → Option Command → Type 0
MayStand volume None = Unit {0}
MayStand volume (Some command) = MayCome volume command

if_fault : {T : Type 0} (b : Bool) (fault : LineFault) (r : Result T LineFault) (P : T → Type 0) → IfOk r P → IfOk (cond b (Err fault) r) P
if_fault true fault r P h = tt
if_fault false fault r P h = h

then_ok : {A B : Type 0} (r : Result A LineFault) (f : A → Result B LineFault) (P : B → Type 0) → ((a : A) → IfOk (f a) P) → IfOk (r >>= f) P
then_ok (Ok a) f P h = h a
then_ok (Err e) f P h = tt

within_ok : (b : Bool) (command : Command) (P : Command → Type 0) → (b ≡ true → P command) → IfOk (cond b (Ok command) (Err OutOfRange)) P
within_ok true command P h = h refl
within_ok false command P h = tt

server_may : (named : NamedVolume) (verb : ServerVerb) (g i : ℕ) → IfOk (placed (Some named) (forms.OfServer verb g i)) (MayRun named)
server_may named Elect g i = within_ok (fits named (commands.Elect g i)) (commands.Elect g i) (MayRun named) (λ h. h)
server_may named Resend g i = within_ok (fits named (commands.Resend g i)) (commands.Resend g i) (MayRun named) (λ h. h)
server_may named Stop g i = within_ok (fits named (commands.Stop g i)) (commands.Stop g i) (MayRun named) (λ h. h)
server_may named Restart g i = within_ok (fits named (commands.Restart g i)) (commands.Restart g i) (MayRun named) (λ h. h)
server_may named Checkpoint g i = within_ok (fits named (commands.Checkpoint g i)) (commands.Checkpoint g i) (MayRun named) (λ h. h)
server_may named Mark g i = within_ok (fits named (commands.Mark g i)) (commands.Mark g i) (MayRun named) (λ h. h)
server_may named ShowLog g i = within_ok (fits named (commands.ShowLog g i)) (commands.ShowLog g i) (MayRun named) (λ h. h)
server_may named ShowApplied g i = within_ok (fits named (commands.ShowApplied g i)) (commands.ShowApplied g i) (MayRun named) (λ h. h)
server_may named ShowSectors g i = within_ok (fits named (commands.ShowSectors g i)) (commands.ShowSectors g i) (MayRun named) (λ h. h)

packet_may : (named : NamedVolume) (verb : PacketVerb) (g k : ℕ) → IfOk (placed (Some named) (forms.OfPacket verb g k)) (MayRun named)
packet_may named Deliver g k = within_ok (fits named (commands.Deliver g k)) (commands.Deliver g k) (MayRun named) (λ h. h)
packet_may named Lose g k = within_ok (fits named (commands.Lose g k)) (commands.Lose g k) (MayRun named) (λ h. h)

placed_may : (volume : Option NamedVolume) (form : Form) → IfOk (placed volume form) (MayCome volume)
placed_may None (forms.Volume c s n f) = within_ok (is_volume c s n f) (commands.Volume c s n f) (MayCome None) (λ h. h)
placed_may None (forms.OfServer verb g i) = tt
placed_may None (forms.OfPacket verb g k) = tt
placed_may None (forms.Submit g i s b c) = tt
placed_may None (forms.Fetch g i s c) = tt
placed_may None (forms.Settle n) = tt
placed_may None (forms.Live g hosts writes workers turns) = tt
placed_may None (forms.ShowAcked g) = tt
placed_may None (forms.ShowMark g i s) = tt
placed_may None forms.Anchors = tt
placed_may None forms.Mount = tt
placed_may None (forms.Kill m) = tt
placed_may None (forms.Call m call) = tt
placed_may None (forms.ShowMount m) = tt
placed_may None (forms.Move c) = tt
placed_may (Some named) (forms.Volume c s n f) = tt
placed_may (Some named) (forms.OfServer verb g i) = server_may named verb g i
placed_may (Some named) (forms.OfPacket verb g k) = packet_may named verb g k
placed_may (Some named) (forms.Submit g i s b c) = within_ok (fits named (commands.Submit g i s b c)) (commands.Submit g i s b c) (MayRun named) (λ h. h)
placed_may (Some named) (forms.Fetch g i s c) = within_ok (fits named (commands.Fetch g i s c)) (commands.Fetch g i s c) (MayRun named) (λ h. h)
placed_may (Some named) (forms.Settle n) = within_ok (fits named (commands.Settle n)) (commands.Settle n) (MayRun named) (λ h. h)
placed_may (Some named) (forms.Live g hosts writes workers turns) = within_ok (fits named (commands.Live g hosts writes workers turns)) (commands.Live g hosts writes workers turns) (MayRun named) (λ h. h)
placed_may (Some named) (forms.ShowAcked g) = within_ok (fits named (commands.ShowAcked g)) (commands.ShowAcked g) (MayRun named) (λ h. h)
placed_may (Some named) (forms.ShowMark g i s) = within_ok (fits named (commands.ShowMark g i s)) (commands.ShowMark g i s) (MayRun named) (λ h. h)
placed_may (Some named) forms.Anchors = within_ok (fits named commands.Anchors) commands.Anchors (MayRun named) (λ h. h)
placed_may (Some named) forms.Mount = within_ok (fits named commands.Mount) commands.Mount (MayRun named) (λ h. h)
placed_may (Some named) (forms.Kill m) = within_ok (fits named (commands.Kill m)) (commands.Kill m) (MayRun named) (λ h. h)
placed_may (Some named) (forms.Call m call) = within_ok (fits named (commands.Call m (call_from call))) (commands.Call m (call_from call)) (MayRun named) (λ h. h)
placed_may (Some named) (forms.ShowMount m) = within_ok (fits named (commands.ShowMount m)) (commands.ShowMount m) (MayRun named) (λ h. h)
placed_may (Some named) (forms.Move c) = within_ok (fits named (commands.Move c)) (commands.Move c) (MayRun named) (λ h. h)

some_may : (volume : Option NamedVolume) (r : Result Command LineFault) → IfOk r (MayCome volume) → IfOk (r >>= λ command. Ok (Some command)) (MayStand volume)
some_may volume (Ok command) h = h
some_may volume (Err fault) h = tt

silent_or : (b : Bool) (volume : Option NamedVolume) (r : Result (Option Command) LineFault) → IfOk r (MayStand volume) → IfOk (cond b (Ok None) r) (MayStand volume)
silent_or true volume r h = tt
silent_or false volume r h = h

command_may : (volume : Option NamedVolume) (words : List (List ℕ)) → IfOk (command_of volume words) (MayStand volume)
command_may volume words =
    silent_or (is_silent words) volume (form_of words >>= λ form. placed volume form >>= λ command. Ok (Some command))
    (then_ok (form_of words) (λ form. placed volume form >>= λ command. Ok (Some command)) (MayStand volume) (λ form. some_may volume (placed volume form) (placed_may volume form)))

-- the same of a line with its number
abbrev MaySay : Option NamedVolume → Option Line → Type 0
MaySay volume None = Unit {0}
MaySay volume (Some line) = MayCome volume line.command

numbered_may : (number : ℕ) (volume : Option NamedVolume) (r : Result (Option Command) LineFault) → IfOk r (MayStand volume) → IfOk (numbered_line number r) (MaySay volume)
numbered_may number volume (Ok None) may = tt
numbered_may number volume (Ok (Some command)) may = may
numbered_may number volume (Err fault) may = tt

read_may : (number : ℕ) (volume : Option NamedVolume) (line : List ℕ) → IfOk (read_line script_rules number volume line) (MaySay volume)
read_may number volume line =
    if_fault (nat_lt 100000 number) TooManyLines (cond (nat_lt 1024 (length line)) (Err LineTooLong) (numbered_line number (said_by_line volume line))) (MaySay volume)
    (if_fault (nat_lt 1024 (length line)) LineTooLong (numbered_line number (said_by_line volume line)) (MaySay volume)
    (numbered_may number volume (said_by_line volume line)
    (if_fault (nat_lt 1024 (length line)) LineTooLong (command_of volume (words_of (trimmed line))) (MayStand volume) (command_may volume (words_of (trimmed line))))))

-- what lines may name behind these
abbrev named_behind : NamedVolume → List Line → NamedVolume
named_behind named [] = named
named_behind named (line ∷ lines) = named_behind (named_after named line.command) lines

-- one line more
behind_more : (named : NamedVolume) (lines : List Line) (line : Line) → named_behind named (lines ++ line ∷ []) ≡ named_after (named_behind named lines) line.command
behind_more named [] line = refl
behind_more named (first ∷ lines) line = behind_more (named_after named first.command) lines line

may_more : (named : NamedVolume) (lines : List Line) (line : Line) → MayRunAll named lines → MayRun (named_behind named lines) line.command → MayRunAll named (lines ++ line ∷ [])
may_more named [] line all may = (may, tt)
may_more named (first ∷ lines) line all may = (all.0, may_more (named_after named first.command) lines line all.1 may)

-- the volume has come, with lines behind it that may be run in it, and lines may name so much by now
record HasCome (named : NamedVolume) (first : Line) (lines : List Line) : Type 0 where
  chunks : ℕ
  volume : MakesVolume chunks first.command
  may : MayRunAll (first_named chunks) lines
  behind : named ≡ named_behind (first_named chunks) lines

abbrev Stand : Option NamedVolume → List Line → Type 0
Stand None lines = lines ≡ []
Stand (Some named) [] = ⊥
Stand (Some named) (first ∷ lines) = HasCome named first lines

volume_stands : (lines : List Line) (number c s n f : ℕ) → Stand None lines → is_volume c s n f ≡ true → Stand (Some (first_named c)) (lines ++ record { number = number; command = commands.Volume c s n f } ∷ [])
volume_stands [] number c s n f none fits = record { chunks = c; volume = (refl, fits); may = tt; behind = refl }
volume_stands (line ∷ lines) number c s n f none fits = absurd (cc)

later_stands : (named : NamedVolume) (lines : List Line) (line : Line) → Stand (Some named) lines → MayRun named line.command → Stand (Some (named_after named line.command)) (lines ++ line ∷ [])
later_stands named [] line none may = absurd none
later_stands named (first ∷ lines) line come may = record {
  chunks = come.chunks;
  volume = come.volume;
  may = may_more (first_named come.chunks) lines line come.may (subst (λ n. MayRun n line.command) come.behind may);
  behind = ap (λ n. named_after n line.command) come.behind ∙ sym (behind_more (first_named come.chunks) lines line);
}

-- but for another volume
after_later : (named : NamedVolume) (command : Command) → MayRun named command → volume_after (Some named) (Some command) ≡ Some (named_after named command)
after_later named (commands.Volume c s n f) may = absurd may
after_later named command may = refl

line_stands : (volume : Option NamedVolume) (lines : List Line) (number : ℕ) (command : Command) → Stand volume lines → MayCome volume command → Stand (volume_after volume (Some command)) (lines ++ record { number = number; command = command } ∷ [])
line_stands None lines number (commands.Volume c s n f) all may = volume_stands lines number c s n f all may
line_stands None lines number command all may = absurd may
line_stands (Some named) lines number command all may =
    let line : Line = record { number = number; command = command } in
    subst (λ volume. Stand volume (lines ++ line ∷ [])) (sym (after_later named command may)) (later_stands named lines line all may)

more_stand : (volume : Option NamedVolume) (lines : List Line) (said : Option Line) → Stand volume lines → MaySay volume said → Stand (volume_behind volume said) (lines ++ said_list said)
more_stand None lines None all may = subst (Stand None) (sym (append-nil lines)) all
more_stand (Some named) lines None all may = subst (Stand (Some named)) (sym (append-nil lines)) all
more_stand volume lines (Some line) all may = line_stands volume lines line.number line.command all may

-- a line that was read has a number of at most 100,000
all_ok : {T : Type 0} (r : Result T LineFault) (P : Type 0) → P → IfOk r (λ x. P)
all_ok (Ok x) P is = is
all_ok (Err fault) P is = tt

few_ok : {T : Type 0} (number : ℕ) (many : Bool) (r : Result T LineFault) → nat_lt 100000 number ≡ many → IfOk (cond many (Err TooManyLines) r) (λ x. number ≤ 100000)
few_ok number true r is = tt
few_ok number false r is = all_ok r (number ≤ 100000) (grind (arith, nat_tests))

read_few : (number : ℕ) (volume : Option NamedVolume) (line : List ℕ) → IfOk (read_line script_rules number volume line) (λ said. number ≤ 100000)
read_few number volume line = few_ok number (nat_lt 100000 number) (cond (nat_lt 1024 (length line)) (Err LineTooLong) (numbered_line number (said_by_line volume line))) refl

abbrev Reads : (number : ℕ) → (volume : Option NamedVolume) → Result (Option Line) LineFault → Type 0
Reads number volume r = IfOk r (MaySay volume) × IfOk r (λ said. number ≤ 100000)

reads : (number : ℕ) (volume : Option NamedVolume) (line : List ℕ) → Reads number volume (read_line script_rules number volume line)
reads number volume line = (read_may number volume line, read_few number volume line)

-- the lines so far stand in their places, and are fewer than the number of the next one
record AreGood (volume : Option NamedVolume) (lines : List Line) (number : ℕ) : Type 0 where
  stand : Stand volume lines
  fewer : length lines < number
  few : number ≤ 100001

abbrev IsGood : Scanned (Option NamedVolume) Line → Type 0
IsGood (Open lines number volume begun) = AreGood volume lines number
IsGood (Refused line fault) = Unit {0}

abbrev IsGoodEnd : JudgedScript → Type 0
IsGoodEnd (Ok lines) = ScriptIsWhole lines
IsGoodEnd (Err refused) = Unit {0}

at_most_one : (said : Option Line) → length (said_list said) ≤ 1
at_most_one None = omega arith
at_most_one (Some line) = omega arith

more_good : (lines : List Line) (number : ℕ) (volume : Option NamedVolume) (said : Option Line) → AreGood volume lines number → MaySay volume said → number ≤ 100000 → AreGood (volume_behind volume said) (lines ++ said_list said) (number + 1)
more_good lines number volume said all may few = record {
  stand = more_stand volume lines said all.stand may;
  fewer = omega (arith, all.fewer, length-append lines (said_list said), at_most_one said);
  few = omega (arith, few);
}

line_good : (lines : List Line) (number : ℕ) (volume : Option NamedVolume) (r : Result (Option Line) LineFault) → AreGood volume lines number → Reads number volume r → IsGood (fed_line script_rules lines number volume r)
line_good lines number volume (Ok said) all may = more_good lines number volume said all may.0 may.1
line_good lines number volume (Err fault) all may = tt

byte_good : (feed over : Bool) (lines : List Line) (number : ℕ) (volume : Option NamedVolume) (r : Result (Option Line) LineFault) (fault : LineFault) (begun : List ℕ) → AreGood volume lines number → Reads number volume r
    → IsGood (cond feed (fed_line script_rules lines number volume r) (cond over (Refused number fault) (Open lines number volume begun)))
byte_good true over lines number volume r fault begun all may = line_good lines number volume r all may
byte_good false true lines number volume r fault begun all may = tt
byte_good false false lines number volume r fault begun all may = all

fed_good : (s : Scanned (Option NamedVolume) Line) (byte : ℕ) → IsGood s → IsGood (fed script_rules s byte)
fed_good (Refused line fault) byte good = tt
fed_good (Open lines number volume begun) byte good =
    byte_good (is_feed byte) (is_line_over number (begun ++ byte ∷ [])) lines number volume (read_line script_rules number volume begun) (over_fault number) (begun ++ byte ∷ []) good (reads number volume begun)

all_good : (s : Scanned (Option NamedVolume) Line) (bytes : List ℕ) → IsGood s → IsGood (fed_all script_rules s bytes)
all_good s [] good = good
all_good s (byte ∷ bytes) good = all_good (fed script_rules s byte) bytes (fed_good s byte good)

none_good : IsGood (Open [] 1 None [])
none_good = record { stand = refl; fewer = omega arith; few = omega arith }

scan_good : (bytes : List ℕ) → IsGood (scan script_rules None bytes)
scan_good bytes =
    subst IsGood (sym (scan_append script_rules None [] bytes))
    (all_good (scan script_rules None []) bytes (subst IsGood (sym (scan_none script_rules None)) none_good))

ended_good : (lines : List Line) (number : ℕ) (volume : Option NamedVolume) → AreGood volume lines number → IsGoodEnd (ended script_rules lines number volume)
ended_good lines number None all = tt
ended_good [] number (Some named) all = absurd all.stand
ended_good (first ∷ lines) number (Some named) all = record { chunks = all.stand.chunks; placed = (all.stand.volume, all.stand.may); few = omega (arith, all.fewer, all.few) }

last_good : (lines : List Line) (number : ℕ) (volume : Option NamedVolume) (r : Result (Option Line) LineFault) → AreGood volume lines number → Reads number volume r → IsGoodEnd (last_line script_rules lines number volume r)
last_good lines number volume (Ok said) all may = ended_good (lines ++ said_list said) (number + 1) (volume_behind volume said) (more_good lines number volume said all may.0 may.1)
last_good lines number volume (Err fault) all may = tt

close_good : (s : Scanned (Option NamedVolume) Line) → IsGood s → IsGoodEnd (close script_rules s)
close_good (Refused line fault) good = tt
close_good (Open lines number volume []) good = ended_good lines number volume good
close_good (Open lines number volume (byte ∷ bytes)) good = last_good lines number volume (read_line script_rules number volume (byte ∷ bytes)) good (reads number volume (byte ∷ bytes))

pub whole_script : (script : List ℕ) (lines : List Line) → script_of script ≡ Ok lines → ScriptIsWhole lines
whole_script script lines accepted = subst IsGoodEnd accepted (close_good (scan script_rules None script) (scan_good script))
