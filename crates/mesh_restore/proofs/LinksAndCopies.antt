-- The links, the id of the next copy and the copies, one after another.
use Rattle.std.proofs.Common.{◌≡◌, ℕ, ◌+◌, ◌≤◌, Bool, List, Option, Some, None, refl, sym, ap, ◌∙◌}
use Rattle.std.proofs.lemmas.Option.{same_Some}
use Rattle.std.specs.Int.{w64}
use Rattle.mesh_base.specs.declared.events.Flying.{Flying}
use Rattle.mesh_radio.specs.Radios.{RadioState, opening}
use Rattle.mesh_checkpoint.specs.declared.limits.TheConstants.{GREATEST_NEXT_ID}
use Rattle.mesh_checkpoint.specs.Formats.{◌>>=◌, number_at, get_rising}
use Rattle.mesh_checkpoint.specs.Checkpoint as model
use Rattle.mesh_checkpoint.specs.Checkpoint.{Link, link_key}
use Rattle.mesh_checkpoint.specs.Points.{links_of}
use Rattle.mesh_restore.specs.RadioParts.{RadioPart, radio_part, ArePassed, AreLinksRead, AreCopiesRead, IsRadioPartRead}
use Rattle.mesh_restore.specs.Reading.{Refuses}
use Rattle.mesh_restore.specs.declared.error.ReadError.{ReadError}
use Rattle.mesh_restore.specs.declared.error.ReadError.TheVariants.{Spelling, NoMemory}

abbrev link_list : ℕ → ℕ → List ℕ → Option (List Link × List ℕ)
link_list nodes count bytes = get_rising link_key (model.link nodes).get count 0 bytes

abbrev copy_list : ℕ → ℕ → ℕ → List ℕ → Option (List Flying × List ℕ)
copy_list nodes next count bytes = get_rising (λ c. c.id) (model.copy nodes next).get count 0 bytes

-- no number of links, or no links
pub no_count : (nodes : ℕ) (bytes : List ℕ) → model.any16.get bytes ≡ None → (radio_part nodes).get bytes ≡ None
no_count nodes bytes none = rw none refl

pub no_links_there : (nodes count : ℕ) (bytes r : List ℕ) → model.any16.get bytes ≡ Some (count, r) → link_list nodes count r ≡ None → (radio_part nodes).get bytes ≡ None
no_links_there nodes count bytes r one none = rw (one, none) refl

pub no_next : (nodes count : ℕ) (bytes r s : List ℕ) (ls : List Link) → model.any16.get bytes ≡ Some (count, r) → link_list nodes count r ≡ Some (ls, s) → number_at w64 1 (GREATEST_NEXT_ID + 1) s ≡ None → (radio_part nodes).get bytes ≡ None
no_next nodes count bytes r s ls one two none = rw (one, two, none) refl

pub no_copies : (nodes count next : ℕ) (bytes r s t : List ℕ) (ls : List Link) → model.any16.get bytes ≡ Some (count, r) → link_list nodes count r ≡ Some (ls, s) → number_at w64 1 (GREATEST_NEXT_ID + 1) s ≡ Some (next, t) → model.any32.get t ≡ None → (radio_part nodes).get bytes ≡ None
no_copies nodes count next bytes r s t ls one two three none = rw (one, two, three, none) refl

abbrev with_number : ℕ → List Flying × List ℕ → Option ((ℕ × List Flying) × List ℕ)
with_number n y = Some ((n, y.0), y.1)

abbrev without_number : (ℕ × List Flying) × List ℕ → Option (List Flying × List ℕ)
without_number x = Some ((x.0).1, x.1)

abbrev with_links : List Link → (ℕ × List Flying) × List ℕ → Option (RadioPart × List ℕ)
with_links ls y = Some ((ls, y.0), y.1)

abbrev as_aired : List Link → ℕ → List Flying × List ℕ → Option (RadioPart × List ℕ)
as_aired ls next y = Some ((ls, (next, y.0)), y.1)

collapse : (ls : List Link) (next many : ℕ) (o : Option (List Flying × List ℕ)) → ((((o >>= with_number many) >>= without_number) >>= with_number next) >>= with_links ls) ≡ (o >>= as_aired ls next)
collapse ls next many None = refl
collapse ls next many (Some y) = refl

radio_part_at : (nodes count next many : ℕ) (bytes r s t u : List ℕ) (ls : List Link) → model.any16.get bytes ≡ Some (count, r) → link_list nodes count r ≡ Some (ls, s) → number_at w64 1 (GREATEST_NEXT_ID + 1) s ≡ Some (next, t) → model.any32.get t ≡ Some (many, u)
    → (radio_part nodes).get bytes ≡ (copy_list nodes next many u >>= as_aired ls next)
radio_part_at nodes count next many bytes r s t u ls one two three four = rw (one, two, three, four) (collapse ls next many (copy_list nodes next many u))

pub still : {A B : Type 0} (e : ReadError) (o : Option A) (f : A → Option B) → Refuses e o → Refuses e (o >>= f)
still Spelling o f none = rw none refl
still NoMemory o f none = tt

pub copies_not_read : (nodes count next many : ℕ) (bytes r s t u : List ℕ) (ls : List Link) (e : ReadError) → model.any16.get bytes ≡ Some (count, r) → link_list nodes count r ≡ Some (ls, s) → number_at w64 1 (GREATEST_NEXT_ID + 1) s ≡ Some (next, t) → model.any32.get t ≡ Some (many, u)
    → Refuses e (copy_list nodes next many u) → Refuses e ((radio_part nodes).get bytes)
copies_not_read nodes count next many bytes r s t u ls e one two three four refused =
    rw (radio_part_at nodes count next many bytes r s t u ls one two three four) (still e (copy_list nodes next many u) (as_aired ls next) refused)

-- ---- all is read

pub radio_part_read : (nodes count next many : ℕ) (bytes r s t u rest behind : List ℕ) (first linked radio : RadioState) (apart : Bool) → next ≤ GREATEST_NEXT_ID → model.any16.get bytes ≡ Some (count, r) → ArePassed (link_list nodes count r) s → number_at w64 1 (GREATEST_NEXT_ID + 1) s ≡ Some (next, t) → model.any32.get t ≡ Some (many, u)
    → first ≡ record (opening nodes) { next_copy = next } → AreLinksRead (link_list nodes count r) first linked behind → AreCopiesRead (copy_list nodes next many u) linked radio apart rest → IsRadioPartRead nodes ((radio_part nodes).get bytes) radio apart rest
radio_part_read nodes count next many bytes r s t u rest behind first linked radio apart most one p three four first_is l c =
    let same : (p.found, s) ≡ (links_of linked.ever linked.links, behind) = same_Some (p.found, s) (links_of linked.ever linked.links, behind) (sym p.read_is ∙ l.read_is) in
    let links_are : p.found ≡ links_of linked.ever linked.links = ap (λ (x : List Link × List ℕ). x.0) same in
    let ever_is : radio.ever ≡ linked.ever = ap (λ (x : RadioState). x.ever) c.others in
    let standing : radio.links ≡ linked.links = ap (λ (x : RadioState). x.links) c.others in
    let next_is : radio.next_copy ≡ next = ap (λ (x : RadioState). x.next_copy) c.others ∙ ap (λ (x : RadioState). x.next_copy) l.others ∙ ap (λ (x : RadioState). x.next_copy) first_is in
    let size_is : radio.size ≡ nodes = ap (λ (x : RadioState). x.size) c.others ∙ ap (λ (x : RadioState). x.size) l.others ∙ ap (λ (x : RadioState). x.size) first_is in
    record {
      found = c.found;
      read_is = radio_part_at nodes count next many bytes r s t u p.found one p.read_is three four ∙ rw (c.read_is, links_are, ever_is, standing, next_is) refl;
      whole = c.whole;
      some_to_itself = c.some_to_itself;
      size = size_is;
      next = rw next_is most;
    }
