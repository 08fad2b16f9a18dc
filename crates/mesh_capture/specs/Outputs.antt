-- What was written and answered for a text: what the source has left, and what the two sinks held
-- before and hold now.
use Rattle.std.specs.Prelude.{ℕ, ◌≡◌, List, [], codes, Option, Result, Ok, Err, ⊤}
use Rattle.std.specs.Io.KnownBytes.{Appends}
use Rattle.mesh_grammar.specs.Written.{line, label_number}
use Rattle.mesh_io.specs.NextLines.{text_limits}
use Rattle.mesh_io.specs.Puts.{AppendsPrefix}
use Rattle.mesh_shell.specs.Fold.{RunText}
use Rattle.mesh_shell.specs.Outputs.{IsOutputFrom}
use Rattle.mesh_shell.specs.declared.fault.Fault.{Fault}
use Rattle.mesh_shell.specs.declared.fault.Fault.TheVariants as fault
use Rattle.mesh_capture.specs.Copies.{Reading, nothing_read}
use Rattle.mesh_capture.specs.Captures.{capture}
use Rattle.mesh_capture.specs.declared.status.CaptureVerdict.{CaptureVerdict}
use Rattle.mesh_capture.specs.declared.status.CaptureVerdict.TheVariants as verdict
use Rattle.mesh_capture.specs.declared.status.CaptureStatus.{CaptureStatus}
use Rattle.mesh_capture.specs.declared.status.CaptureStatus.TheVariants.{Done, Usage, BadLine, ReadFault, WriteFault, NoMemory}

-- ---- the file

-- what was written to the file for a text whose capture has answered this
abbrev pub IsCaptured : List ℕ → (left before now : Option (List ℕ))
    → Result CaptureVerdict Fault → Type 0
IsCaptured text left before now answer =
    IsOutputFrom capture text_limits nothing_read text left before now answer

-- what was written to the file, by status: the whole file with its verdict; or the header and the
-- packets of the lines that were read whole before a failed read; or a prefix of the file
abbrev pub IsFile : List ℕ → (left before now : Option (List ℕ)) → CaptureStatus → Type 0
IsFile text left before now Done = IsCaptured text left before now (Ok verdict.Done)
IsFile text left before now (BadLine n) = IsCaptured text left before now (Ok (verdict.BadLine n))
IsFile text left before now ReadFault = IsCaptured text left before now (Err fault.ReadFault)
IsFile text left before now WriteFault = IsCaptured text left before now (Err fault.WriteFault)
IsFile text left before now NoMemory = IsCaptured text left before now (Err fault.NoMemory)
IsFile text left before now Usage = ⊥

-- ---- what is said besides the file

-- the line that names a refused line
unfoldable pub bad_line : ℕ → List ℕ
bad_line n = line (label_number (codes "bad line ") n)

-- what is said of a capture with this verdict
abbrev pub refusal_line : CaptureVerdict → List ℕ
refusal_line verdict.Done = []
refusal_line (verdict.BadLine n) = bad_line n

-- the line that names the refused line, or a prefix of it after a failed write
abbrev pub IsSaid : Option (List ℕ) → Option (List ℕ) → RunText Reading CaptureVerdict
    → CaptureStatus → Type 0
IsSaid before now c Done = now ≡ before
IsSaid before now c (BadLine n) = Appends before now (bad_line n)
IsSaid before now c ReadFault = now ≡ before
IsSaid before now c WriteFault = AppendsPrefix before now (refusal_line c.verdict)
IsSaid before now c NoMemory = now ≡ before
IsSaid before now c Usage = now ≡ before

-- the line of a refusal was written, or a prefix of it after a failed write
abbrev pub IsRefused : Option (List ℕ) → Option (List ℕ) → ℕ → CaptureStatus → Type 0
IsRefused before now n Done = ⊥
IsRefused before now n Usage = ⊥
IsRefused before now n (BadLine m) = (m ≡ n) × Appends before now (bad_line n)
IsRefused before now n ReadFault = ⊥
IsRefused before now n WriteFault = AppendsPrefix before now (bad_line n)
IsRefused before now n NoMemory = ⊥

-- ---- the answer

-- the text was read whole, or up to the line that is refused
abbrev pub IsDecided : CaptureStatus → Type 0
IsDecided Done = ⊤
IsDecided (BadLine n) = ⊤
IsDecided ReadFault = ⊥
IsDecided WriteFault = ⊥
IsDecided NoMemory = ⊥
IsDecided Usage = ⊥
