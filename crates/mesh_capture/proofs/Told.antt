-- Lines that are read one after another: what is known after them, and the copies that they end.
use Rattle.std.proofs.Common.{◌≡◌, ℕ, ◌+◌, true, List, [], ◌∷◌, ◌++◌, Option, Some, None, refl, sym, ap, ap₂, subst, ◌∙◌, append_assoc, append-nil}
use Rattle.std.specs.Prelude.{if◌then◌else◌, Bool, false}
use Rattle.std.specs.List.{flat_map, AllByRecursion}
use Rattle.std.proofs.lemmas.Grind.{flat_map-append}
use Rattle.mesh_base.specs.Meshes.{Nodes, addr_at}
use Rattle.mesh_base.specs.Parts.{parts}
use Rattle.mesh_model.specs.Worlds.{Copy}
use Rattle.mesh_model.proofs.Lists.{each_append}
use Rattle.mesh_meaning.specs.Packets.{packet_of}
use Rattle.mesh_grammar.specs.Written.{line}
use Rattle.mesh_text.proofs.Clean.{is_clean}
use Rattle.mesh_lines.specs.declared.below.Below.{Below}
use Rattle.mesh_capture.specs.declared.copies.FlyingCopy.{FlyingCopy}
use Rattle.mesh_capture.specs.declared.frame.Frame.{Frame}
use Rattle.mesh_lines.specs.Belows.{event_by, other_by}
use Rattle.mesh_capture.specs.Copies.{Flying, Reading, LineOutcome, after_line, effect_below, after_outer, line_by, outer, effect}

-- ---- lines

abbrev pub frames_in : Option Frame → List Frame
frames_in None = []
frames_in (Some f) = f ∷ []

-- from r to s these lines are taken, and end these copies
unfoldable pub AreTaken : Reading → List (List ℕ) → List Frame → Reading → Type 0
AreTaken r [] fs s = (fs ≡ []) × (s ≡ r)
AreTaken r (l ∷ ls) fs s =
    (o : LineOutcome) × (gs : List Frame) × (after_line r l ≡ Some o) × (fs ≡ frames_in o.frame ++ gs) × AreTaken o.now ls gs s

taken_append : (r s t : Reading) (ls ms : List (List ℕ)) (fs gs : List Frame) → AreTaken r ls fs s → AreTaken s ms gs t → AreTaken r (ls ++ ms) (fs ++ gs) t
unfolding AreTaken
taken_append r s t [] ms fs gs first rest =
    subst (λ x. AreTaken x ms (fs ++ gs) t) first.1 (subst (λ hs. AreTaken s ms (hs ++ gs) t) (sym first.0) rest)
taken_append r s t (l ∷ ls) ms fs gs first rest = (
  first.0,
  first.1 ++ gs,
  first.2,
  ap (λ hs. hs ++ gs) first.3 ∙ append_assoc (frames_in (first.0).frame) first.1 gs,
  taken_append (first.0).now s t ls ms first.1 gs first.4 rest,
)

-- from r to s a text of whole lines is taken
pub record IsTold (r : Reading) (text : List ℕ) (fs : List Frame) (s : Reading) : Type 0 where
  pub lines : List (List ℕ)
  pub whole : text ≡ flat_map line lines
  pub clean : AllByRecursion (λ l. is_clean l ≡ true) lines
  pub taken : AreTaken r lines fs s

pub told_none : (r : Reading) → IsTold r [] [] r
unfolding AreTaken
told_none r = record { lines = []; whole = refl; clean = tt; taken = (refl, refl) }

pub told_line : (r : Reading) (l : List ℕ) (o : LineOutcome) → is_clean l ≡ true → after_line r l ≡ Some o → IsTold r (line l) (frames_in o.frame) o.now
unfolding AreTaken
told_line r l o clean is = record {
  lines = l ∷ [];
  whole = sym (append-nil (line l));
  clean = (clean, tt);
  taken = (o, [], is, sym (append-nil (frames_in o.frame)), (refl, refl));
}

pub told_append : (r s t : Reading) (a b : List ℕ) (fs gs : List Frame) → IsTold r a fs s → IsTold s b gs t → IsTold r (a ++ b) (fs ++ gs) t
told_append r s t a b fs gs first rest = record {
  lines = first.lines ++ rest.lines;
  whole = ap₂ (λ x y. x ++ y) first.whole rest.whole ∙ sym (flat_map-append line first.lines rest.lines);
  clean = each_append (λ l. is_clean l ≡ true) first.lines rest.lines first.clean rest.clean;
  taken = taken_append r s t first.lines rest.lines fs gs first.taken rest.taken;
}

-- ---- what is known, where these copies are in flight

abbrev pub copy_told : Nodes → Copy → ℕ × FlyingCopy
copy_told mesh c =
    (c.id, record { from = addr_at mesh c.from; to = addr_at mesh c.to; packet = packet_of mesh c.message })

unfoldable pub flight_told : Nodes → List Copy → Flying
flight_told mesh [] = []
flight_told mesh (c ∷ cs) = copy_told mesh c ∷ flight_told mesh cs

-- the copies in flight, how many events there were, and what stands below the last line
pub record Stand : Type 0 where
  pub flying : List Copy
  pub events : ℕ
  pub below : Below

-- after so many lines
abbrev pub reading_of : Nodes → Stand → ℕ → Reading
reading_of mesh a k = record { events = a.events; below = a.below; flying = flight_told mesh a.flying; lines = k }

-- the text leads from a to b, however many lines were read
abbrev pub Reads : Nodes → Stand → List ℕ → List Frame → Stand → Type 0
Reads mesh a text fs b = (k : ℕ) → (j : ℕ) × IsTold (reading_of mesh a k) text fs (reading_of mesh b j)

pub reads_none : (mesh : Nodes) (a : Stand) → Reads mesh a [] [] a
reads_none mesh a k = (k, told_none (reading_of mesh a k))

pub reads_append : (mesh : Nodes) (a b c : Stand) (s t : List ℕ) (fs gs : List Frame) → Reads mesh a s fs b → Reads mesh b t gs c → Reads mesh a (s ++ t) (fs ++ gs) c
reads_append mesh a b c s t fs gs first rest k =
    let one = first k in
    let two = rest one.0 in
    (two.0, told_append (reading_of mesh a k) (reading_of mesh b one.0) (reading_of mesh c two.0) s t fs gs one.1 two.1)

-- texts that end no copy
pub reads_both : (mesh : Nodes) (a b c : Stand) (s t : List ℕ) → Reads mesh a s [] b → Reads mesh b t [] c → Reads mesh a (s ++ t) [] c
reads_both mesh a b c s t first rest = reads_append mesh a b c s t [] [] first rest

pub reads_if : (mesh : Nodes) (a : Stand) (b : Bool) (t : List ℕ) → (b ≡ true → Reads mesh a t [] a) → Reads mesh a (if b then t else []) [] a
reads_if mesh a true t then' = then' refl
reads_if mesh a false t then' = reads_none mesh a

-- ---- one line

-- it leads from a to b
abbrev pub came : Nodes → Stand → Option Frame → ℕ → Option LineOutcome
came mesh b ended k = Some (record { now = reading_of mesh b k; frame = ended })

pub reads_line : (mesh : Nodes) (a b : Stand) (l : List ℕ) (ended : Option Frame) → is_clean l ≡ true → ((k : ℕ) → after_line (reading_of mesh a k) l ≡ came mesh b ended (k + 1))
    → Reads mesh a (line l) (frames_in ended) b
reads_line mesh a b l ended clean is k =
    (k + 1, told_line (reading_of mesh a k) l (record { now = reading_of mesh b (k + 1); frame = ended }) clean (is k))

-- an effect, which stands behind two spaces
pub reads_effect : (mesh : Nodes) (a b : Stand) (text word : List ℕ) (words : List (List ℕ)) (ended : Option Frame) → is_clean text ≡ true → parts 32 text ≡ word ∷ words
    → ((k : ℕ) → effect_below (reading_of mesh a k) a.below word words ≡ came mesh b ended k) → Reads mesh a (line (32 ∷ 32 ∷ text)) (frames_in ended) b
unfolding after_line
reads_effect mesh a b text word words ended clean cut is =
    reads_line mesh a b (32 ∷ 32 ∷ text) ended clean (λ k. ap (effect (reading_of mesh a (k + 1))) cut ∙ is (k + 1))

-- a line without two spaces before it
pub reads_outer : (mesh : Nodes) (a b : Stand) (text word : List ℕ) (words : List (List ℕ)) → is_clean text ≡ true → ((r : Reading) → line_by r text ≡ outer r (parts 32 text)) → parts 32 text ≡ word ∷ words
    → ((k : ℕ) → after_outer (reading_of mesh a k) (event_by word words) (other_by word words) ≡ came mesh b None k) → Reads mesh a (line text) [] b
unfolding after_line
reads_outer mesh a b text word words clean plain cut is =
    reads_line mesh a b text None clean (λ k. plain (reading_of mesh a (k + 1)) ∙ ap (outer (reading_of mesh a (k + 1))) cut ∙ is (k + 1))
