-- What is loaded of bytes is what a checkpoint is of.
use Rattle.std.proofs.Common.{◌≡◌, ℕ, ◌+◌, ◌-◌, ◌<◌, ◌≤◌, List, [], length, take, drop, Option, Some, None, Result, Ok, Err, refl, sym, ap, subst, ◌∙◌, arith}
use Rattle.std.specs.Prelude.{MatchResult, IfOk}
use Rattle.std.proofs.lemmas.List.{take_all, length-drop}
use Rattle.std.proofs.lemmas.Option.{none-some, same_Some}
use Rattle.mesh_base.specs.Meshes.{Nodes}
use Rattle.mesh_base.specs.declared.events.Variant.{Variant}
use Rattle.mesh_world.specs.declared.restored.Part.{Part}
use Rattle.mesh_text.specs.Schedule.{RunState}
use Rattle.mesh_checkpoint.specs.declared.limits.TheConstants.{SUMS_END, MOST_STEPS}
use Rattle.mesh_checkpoint.specs.declared.validating.ValidateError.{ValidateError}
use Rattle.mesh_checkpoint.specs.declared.validating.ValidateError.TheVariants as validates
use Rattle.mesh_checkpoint.specs.Checkpoint.{World, Body, body}
use Rattle.mesh_checkpoint.specs.State as state
use Rattle.mesh_checkpoint.specs.State.{magic, body_length, checkpoint_of, IsCheckpoint, IsValidated}
use Rattle.mesh_checkpoint.specs.Points.{IsState}
use Rattle.mesh_checkpoint.specs.Laws.{WrittenIsRead, OneBody, BalancedIsTaken}
use Rattle.mesh_load.specs.declared.error.StateError.{StateError}
use Rattle.mesh_load.specs.declared.error.StateError.TheVariants as errors
use Rattle.mesh_load.specs.Errors.{after_validate}
use Rattle.mesh_load.specs.Loading.{IsUnsoundWorld, IsRefused}
use Rattle.mesh_load.specs.RunStates.{IsPlainRunState}
use Rattle.mesh_load.specs.Parts.{IsMade, Makes, IsRefusalOf, IsUnsoundIfWorld, IsBody, IsUnsoundBody, IsRunStateOf}

-- ---- the bytes of the body

pub body_bytes : (b : List ℕ) (x : Body) → IsCheckpoint b x → drop 8 b ≡ body.put x
body_bytes b x is = ap (λ (k : List ℕ). drop 8 k) is.spelled

-- bytes that are a checkpoint are at least eight, and few
lengths : (b : List ℕ) (x : Body) → IsCheckpoint b x → length b ≡ 8 + body_length x
lengths b x is = ap (λ (k : List ℕ). length k) is.spelled ∙ omega arith

pub long_enough : (b : List ℕ) (n : ℕ) → IsValidated b n → 8 ≤ length b
long_enough b n s = let a = lengths b s.found s.checkpoint in omega arith

pub is_body : (b rest : List ℕ) (n : ℕ) → WrittenIsRead → (s : IsValidated b n) → rest ≡ drop 8 b → IsBody rest
is_body b rest n again s is = record {
  found = s.found;
  read_is = ap (λ (k : List ℕ). body.get k) (is ∙ body_bytes b s.found s.checkpoint) ∙ again s.found (s.checkpoint).fits;
  fits = (s.checkpoint).fits;
  balanced = s.balanced;
  few =
      let a = lengths b s.found s.checkpoint in
      let c = (s.checkpoint).short in
      let d = s.count in
      let e = s.few in
      omega arith;
}

-- ---- where bytes are refused

pub validate_refused : (b : List ℕ) (e : ValidateError) → state.IsRefused b e → IsRefused b (after_validate e)
validate_refused b validates.NotState is = is
validate_refused b validates.Length is = is
validate_refused b validates.Spelling is = is
validate_refused b validates.Sums is = is

world_unsound : (mesh : Nodes) (variant : Variant) (o : Option World) (part : Part) → IsUnsoundIfWorld mesh variant o part → (w : World) × (o ≡ Some w) × IsUnsoundWorld mesh variant w part
world_unsound mesh variant None part unsound = absurd unsound
world_unsound mesh variant (Some w) part unsound = (w, refl, unsound)

pub body_refused : (b rest : List ℕ) (n : ℕ) (e : StateError) → WrittenIsRead → (s : IsValidated b n) → rest ≡ drop 8 b → IsRefusalOf IsUnsoundBody (body.get rest) e → IsRefused b e
body_refused b rest n errors.NotState again s is told = absurd told
body_refused b rest n errors.Length again s is told = absurd told
body_refused b rest n errors.Spelling again s is told =
    absurd (none-some (s.found, []) (sym told ∙ ap (λ (k : List ℕ). body.get k) (is ∙ body_bytes b s.found s.checkpoint) ∙ again s.found (s.checkpoint).fits))
body_refused b rest n errors.Sums again s is told = absurd told
body_refused b rest n (errors.Unsound part) again s is told =
    let read = ap (λ (k : List ℕ). body.get k) (is ∙ body_bytes b s.found s.checkpoint) ∙ again s.found (s.checkpoint).fits in
    let u = world_unsound (s.found).mesh ((s.found).head).variant (s.found).world part (told s.found [] read) in
    record { body = s.found; world = u.0; checkpoint = s.checkpoint; balanced = s.balanced; world_is = u.1; unsound = u.2 }
body_refused b rest n errors.NoMemory again s is told = tt

-- ---- where the state was made

found_is : (b rest : List ℕ) (n : ℕ) (m : RunState) → WrittenIsRead → (s : IsValidated b n) → rest ≡ drop 8 b → (made : IsMade IsRunStateOf (body.get rest) m) → s.found ≡ made.found
found_is b rest n m again s is made =
    let read = ap (λ (k : List ℕ). body.get k) (is ∙ body_bytes b s.found s.checkpoint) ∙ again s.found (s.checkpoint).fits in
    ap (λ (p : Body × List ℕ). p.0) (same_Some (s.found, []) (made.found, made.rest) (sym read ∙ made.read_is))

pub is_state : (b rest : List ℕ) (n : ℕ) (m : RunState) → WrittenIsRead → IsValidated b n → rest ≡ drop 8 b → IsMade IsRunStateOf (body.get rest) m → IsState b m
is_state b rest n m again s is made =
    subst (IsCheckpoint b) (found_is b rest n m again s is made ∙ sym (made.made).body_is) s.checkpoint

pub unsound_if : (mesh : Nodes) (variant : Variant) (o : Option World) (w : World) (part : Part) → o ≡ Some w → IsUnsoundWorld mesh variant w part → IsUnsoundIfWorld mesh variant o part
unsound_if mesh variant o w part is unsound = subst (λ (p : Option World). IsUnsoundIfWorld mesh variant p part) (sym is) unsound

pub unrefused : (b rest : List ℕ) (n : ℕ) (m : RunState) (e : StateError) → WrittenIsRead → OneBody → BalancedIsTaken → IsValidated b n → rest ≡ drop 8 b → IsMade IsRunStateOf (body.get rest) m → IsRefused b e → e ≡ errors.NoMemory
unrefused b rest n m errors.NotState again one taken s is made told = absurd (taken b s.found validates.NotState s.checkpoint s.balanced told)
unrefused b rest n m errors.Length again one taken s is made told = absurd (taken b s.found validates.Length s.checkpoint s.balanced told)
unrefused b rest n m errors.Spelling again one taken s is made told = absurd (taken b s.found validates.Spelling s.checkpoint s.balanced told)
unrefused b rest n m errors.Sums again one taken s is made told = absurd (taken b s.found validates.Sums s.checkpoint s.balanced told)
unrefused b rest n m (errors.Unsound part) again one taken s is made told =
    let unsound : IsUnsoundBody told.body part = unsound_if (told.body).mesh ((told.body).head).variant (told.body).world told.world part told.world_is told.unsound in
    let same : told.body ≡ made.found = one b told.body s.found told.checkpoint s.checkpoint ∙ found_is b rest n m again s is made in
    absurd ((made.made).sound part (subst (λ (y : Body). IsUnsoundBody y part) same unsound))
unrefused b rest n m errors.NoMemory again one taken s is made told = refl

-- ---- what is answered

-- the bytes behind the first eight
pub all_behind : (b : List ℕ) → take (length b - 8) (drop 8 b) ≡ drop 8 b
all_behind b = take_all (length b - 8) (drop 8 b) (omega (arith, length-drop 8 b))

pub exact : (b rest : List ℕ) (n : ℕ) (r : Result RunState StateError) → WrittenIsRead → IsValidated b n → rest ≡ drop 8 b → Makes IsRunStateOf IsUnsoundBody (body.get rest) r → MatchResult r (IsState b) (IsRefused b)
exact b rest n (Ok m) again s is made = is_state b rest n m again s is made
exact b rest n (Err e) again s is told = body_refused b rest n e again s is told

pub none_refused : (b rest : List ℕ) (n : ℕ) (r : Result RunState StateError) → WrittenIsRead → OneBody → BalancedIsTaken → IsValidated b n → rest ≡ drop 8 b → Makes IsRunStateOf IsUnsoundBody (body.get rest) r → IfOk r (λ _. (e : StateError) → IsRefused b e → e ≡ errors.NoMemory)
none_refused b rest n (Ok m) again one taken s is made = λ e told. unrefused b rest n m e again one taken s is made told
none_refused b rest n (Err e) again one taken s is made = tt

pub few_lines : (read : Option (Body × List ℕ)) (r : Result RunState StateError) → Makes IsRunStateOf IsUnsoundBody read r → IfOk r (λ p. p.lines < SUMS_END)
few_lines read (Ok m) made = (made.made).lines
few_lines read (Err e) made = tt

pub few_steps : (read : Option (Body × List ℕ)) (r : Result RunState StateError) → Makes IsRunStateOf IsUnsoundBody read r → IfOk r (λ p. p.steps ≤ MOST_STEPS)
few_steps read (Ok m) made = (made.made).steps
few_steps read (Err e) made = tt

pub is_plain : (read : Option (Body × List ℕ)) (r : Result RunState StateError) → Makes IsRunStateOf IsUnsoundBody read r → IfOk r IsPlainRunState
is_plain read (Ok m) made = (made.made).plain
is_plain read (Err e) made = tt
