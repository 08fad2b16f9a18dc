-- The laws of a script as a runner.
use Rattle.std.proofs.Common.{◌≡◌, ◌≤◌, ◌+◌, ◌-◌, ℕ, List, [], ◌∷◌, ◌++◌, refl, sym, ap, subst, ◌∙◌, append_assoc, arith}
use Rattle.mesh_io.specs.declared.sink.Sink as sinks
use Rattle.mesh_io.proofs.Writing.{Appends-none, Appends-join}
use Rattle.mesh_shell.specs.Pieces.{Piece}
use Rattle.mesh_shell.specs.Fold.{RunText, lines_before, text_from}
use Rattle.mesh_shell.specs.Scripts.{size_of_pieces}
use Rattle.mesh_shell.specs.Scripted.{written_by, AreSame, HasLed}
use Rattle.mesh_shell.specs.declared.script.Script as scripts
use Rattle.mesh_shell.specs.declared.scripted.Scripted.{Scripted}

-- the laws of a script
abbrev pub Stays : {S V : Type 0} → scripts.Ghosts S V → Type 0
Stays {S} script = (m : S) (n : ℕ) → script.leads m n m

abbrev pub Joins : {S V : Type 0} → scripts.Ghosts S V → Type 0
Joins {S} script =
    (a b c : S) (m n : ℕ) → script.leads a m b → script.leads b n c → script.leads a (m + n) c

abbrev pub Leaves : {S V : Type 0} → scripts.Ghosts S V → Type 0
Leaves {S} script =
    (a b : S) (m n : ℕ) → script.has_room a (m + n) → script.leads a m b → script.has_room b n

pub same_both : {S O : Type 0} (a b c : Scripted S O) → AreSame a b → AreSame b c → AreSame a c
same_both a b c p q = record { script = q.script ∙ p.script; out = q.out ∙ p.out }

pub size_of_both : (lines others : List Piece)
    → size_of_pieces (lines ++ others) ≡ size_of_pieces lines + size_of_pieces others
size_of_both [] others = omega arith
size_of_both (l ∷ lines) others = let h = size_of_both lines others in omega arith

pub before_both : {M V : Type 0} (a b : List ℕ) (w : RunText M V)
    → lines_before a (lines_before b w) ≡ lines_before (a ++ b) w
before_both a b w = ap (λ l. record w { lines = l }) (sym (append_assoc a b w.lines))

-- without lines a script leads to itself
pub stays_there : {S V O : Type 0} (script : scripts.Ghosts S V) (sink : sinks.Ghosts O)
    → Stays script → (a : Scripted S O) → HasLed script sink a [] a
stays_there script sink stays a = record {
  same = record { script = refl; out = refl };
  text = [];
  goes = λ others. refl;
  grown = Appends-none (written_by sink a);
  leads = stays a.script.now 0;
  write = refl;
}

-- if lines lead from a to b, and others from b to c, then all of them lead from a to c
pub joins_both : {S V O : Type 0} (script : scripts.Ghosts S V) (sink : sinks.Ghosts O)
    → Joins script → (a b c : Scripted S O) (lines others : List Piece)
    → HasLed script sink a lines b → HasLed script sink b others c
    → HasLed script sink a (lines ++ others) c
joins_both script sink joins a b c lines others p q = record {
  same = same_both a b c p.same q.same;
  text = p.text ++ q.text;
  goes = λ more.
      ap (text_from script.fold a.script.now) (append_assoc lines others more)
      ∙ p.goes (others ++ more)
      ∙ ap (lines_before p.text) (q.goes more)
      ∙ before_both p.text q.text (text_from script.fold c.script.now more);
  grown = Appends-join (written_by sink a) (written_by sink b) (written_by sink c) p.text q.text
      (p.text ++ q.text) refl p.grown q.grown;
  leads = subst (λ n. script.leads a.script.now n c.script.now)
      (sym (size_of_both lines others))
      (joins a.script.now b.script.now c.script.now (size_of_pieces lines)
      (size_of_pieces others) p.leads q.leads);
  write = q.write ∙ p.write;
}

-- after lines there is as much room as they leave: where there is room for more bytes there is room
-- for fewer
pub leaves_room : {S V O : Type 0} (script : scripts.Ghosts S V) (sink : sinks.Ghosts O)
    → Stays script → Leaves script → (a b : Scripted S O) (lines : List Piece) (all few : ℕ)
    → script.has_room a.script.now all → HasLed script sink a lines b
    → size_of_pieces lines + few ≤ all → script.has_room b.script.now few
leaves_room script sink stays leaves a b lines all few room led fits =
    let size : ℕ = size_of_pieces lines in
    let more : ℕ = all - (size + few) in
    let split : all ≡ more + (size + few) = omega arith in
    let at_front = subst (script.has_room a.script.now) split room in
    leaves a.script.now b.script.now size few
    (leaves a.script.now a.script.now more (size + few) at_front (stays a.script.now more))
    led.leads
