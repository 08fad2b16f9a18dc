-- The lines without two spaces before them: an event is read as itself, and any other line as what it shows.
use Rattle.std.proofs.Common.{◌≡◌, ℕ, ◌+◌, ◌^◌, ◌<◌, ◌≤◌, Bool, true, cond, ◌&&◌, List, [], ◌∷◌, ◌++◌, codes, Some, None, option_map, option_and_then, refl, ap, ◌∙◌, arith}
use Rattle.std.specs.Prelude.{is_some}
use Rattle.std.specs.Fmt.{decimal}
use Rattle.std.proofs.lemmas.Bool.{and_from}
use Rattle.mesh_base.specs.Addresses.{address_of}
use Rattle.mesh_base.specs.Meshes.{Nodes, IsMesh, addr_at}
use Rattle.mesh_base.specs.Parts.{parts}
use Rattle.mesh_base.proofs.WrittenForms.{Lacks, number_up_to-decimal, positive-decimal}
use Rattle.mesh_model.specs.Worlds.{Event, Give, Turn, Send, Ask, Link, Cut, Deliver, Lose, Double}
use Rattle.mesh_grammar.specs.Forms.{Arguments, OneAddress, TwoAddresses, OneNumber, AddressesAndText, IsText}
use Rattle.mesh_grammar.specs.Laws.{HaveAddresses}
use Rattle.mesh_grammar.specs.Words.{is_text}
use Rattle.mesh_grammar.specs.Written.{line, command_text}
use Rattle.mesh_grammar.proofs.CommandLines.{words_in, HaveNumbers, words_written, text_is}
use Rattle.mesh_text.specs.Lines.{name_of, event_words}
use Rattle.mesh_text.specs.Ranges.{IsEventLine}
use Rattle.mesh_text.proofs.Clean.{is_clean, name_clean, decimal_clean, clean_append, clean_body}
use Rattle.mesh_lines.specs.declared.below.Below.{Below}
use Rattle.mesh_lines.specs.declared.below.Below.TheVariants as below
use Rattle.mesh_lines.specs.declared.form.Field.{Field}
use Rattle.mesh_lines.specs.declared.form.Field.TheVariants.{Address, Positive, UpTo}
use Rattle.mesh_lines.specs.Forms.{is_address, are, fits, text_behind, holds_of}
use Rattle.mesh_lines.specs.Lines.{ends_of}
use Rattle.mesh_lines.specs.Belows.{casting, event_by, other_by}
use Rattle.mesh_lines.proofs.WordLaws.{text_of_ends}
use Rattle.mesh_capture.specs.Copies.{Reading, after_outer, line_by, outer}
use Rattle.mesh_capture.proofs.Told.{Stand, Reads, reading_of, reads_outer}
use Rattle.mesh_capture.proofs.Words.{word_lacks, name_read, is_name, number_read, address_fits}

-- ---- words of each form

pub ends_read : (mesh : Nodes) (x y : ℕ) → IsMesh mesh → ends_of (name_of mesh x ∷ name_of mesh y ∷ []) ≡ Some (addr_at mesh x, addr_at mesh y)
ends_read mesh x y is =
    ap (option_and_then (λ (a : ℕ). option_map (λ (b : ℕ). (a, b)) (address_of (name_of mesh y)))) (name_read mesh x is)
    ∙ ap (option_map (λ (b : ℕ). (addr_at mesh x, b))) (name_read mesh y is)

pub one_is : (field : Field) (word : List ℕ) → fits field word ≡ true → are (field ∷ []) (word ∷ []) ≡ true
one_is field word is = and_from (fits field word) true is refl

pub two_are : (f g : Field) (v w : List ℕ) → fits f v ≡ true → fits g w ≡ true → are (f ∷ g ∷ []) (v ∷ w ∷ []) ≡ true
two_are f g v w first second = and_from (fits f v) (are (g ∷ []) (w ∷ [])) first (one_is g w second)

pub names_are : (mesh : Nodes) (x y : ℕ) → IsMesh mesh → are (Address ∷ Address ∷ []) (name_of mesh x ∷ name_of mesh y ∷ []) ≡ true
names_are mesh x y is = two_are Address Address (name_of mesh x) (name_of mesh y) (is_name mesh x is) (is_name mesh y is)

-- a text behind two names
pub text_read : (mesh : Nodes) (x y : ℕ) (text : List ℕ) (test : List ℕ → Bool) → IsMesh mesh → test text ≡ true
    → holds_of test (text_behind (name_of mesh x ∷ name_of mesh y ∷ parts 32 text)) ≡ true
text_read mesh x y text test is passes =
    let both : is_address (name_of mesh x) && is_address (name_of mesh y) ≡ true = and_from (is_address (name_of mesh x)) (is_address (name_of mesh y)) (is_name mesh x is) (is_name mesh y is) in
    ap (holds_of test) (text_of_ends (name_of mesh x) (name_of mesh y) text) ∙ ap (λ b. holds_of test (cond b (Some text) None)) both ∙ passes

pub number_fits : (most n : ℕ) → n ≤ most → most < 2 ^ 64 → fits (UpTo most) (decimal n) ≡ true
number_fits most n le small = ap is_some (number_up_to-decimal most n le (omega arith))

pub positive_fits : (most n : ℕ) → 1 ≤ n → n ≤ most → most < 2 ^ 64 → fits (Positive most) (decimal n) ≡ true
positive_fits most n some le small = ap is_some (positive-decimal most n some le (omega arith))

-- ---- an event

-- what stands below it
abbrev pub below_of : Nodes → Event → Below
below_of mesh (Give x d body) = below.Nothing
below_of mesh (Turn x) = casting (addr_at mesh x)
below_of mesh (Send x d) = casting (addr_at mesh x)
below_of mesh (Ask x d) = casting (addr_at mesh x)
below_of mesh (Link a b) = below.Link
below_of mesh (Cut a b) = below.Link
below_of mesh (Deliver id) = below.Delivers id
below_of mesh (Lose id) = below.Loses id
below_of mesh (Double id) = below.Doubles id

-- one event more
abbrev pub stepped : Stand → Below → Stand
stepped a b = record a { events = a.events + 1; below = b }

-- a command's line that is this event's
reads_event : (mesh : Nodes) (a : Stand) (b : Below) (word : List ℕ) (arguments : Arguments ℕ) → Lacks 32 word → HaveAddresses arguments → HaveNumbers arguments
    → is_clean (command_text word arguments) ≡ true → ((r : Reading) → line_by r (command_text word arguments) ≡ outer r (parts 32 (command_text word arguments)))
    → event_by word (words_in arguments) ≡ Some b → Reads mesh a (line (command_text word arguments)) [] (stepped a b)
reads_event mesh a b word arguments lacks fit low clean plain found =
    reads_outer mesh a (stepped a b) (command_text word arguments) word (words_in arguments) clean plain (words_written word lacks arguments fit low)
    (λ k. ap (λ o. after_outer (reading_of mesh a k) o (other_by word (words_in arguments))) found)

module _ (mesh : Nodes) (is : IsMesh mesh) where
  name_fits : (x : ℕ) → addr_at mesh x < 2 ^ 32
  name_fits x = address_fits mesh x is

  two_clean : (x y : ℕ) → is_clean (name_of mesh x ++ 32 ∷ name_of mesh y) ≡ true
  two_clean x y = clean_append (name_of mesh x) (32 ∷ name_of mesh y) (name_clean mesh x) (name_clean mesh y)

  data_clean : (x y : ℕ) (body : List ℕ) → IsText body → is_clean (name_of mesh x ++ 32 ∷ name_of mesh y ++ 32 ∷ body) ≡ true
  data_clean x y body text = clean_append (name_of mesh x ++ 32 ∷ name_of mesh y) (32 ∷ body) (two_clean x y) (clean_body body text.2)

  pub event_read : (a : Stand) (e : Event) → IsEventLine mesh e → Reads mesh a (line (event_words mesh e)) [] (stepped a (below_of mesh e))
  unfolding event_words command_text words_in HaveNumbers
  event_read a (Give x d body) range =
      reads_event mesh a below.Nothing (codes "data") (AddressesAndText (addr_at mesh x) (addr_at mesh d) body) (word_lacks 32 (codes "data") refl) (name_fits x, name_fits d) tt
      (data_clean x d body range.2) (λ r. refl) (ap (λ b. cond b (Some below.Nothing) None) (text_read mesh x d body is_text is (text_is body range.2)))
  event_read a (Turn x) range =
      reads_event mesh a (casting (addr_at mesh x)) (codes "turn") (OneAddress (addr_at mesh x)) (word_lacks 32 (codes "turn") refl) (name_fits x) tt
      (name_clean mesh x) (λ r. refl) (ap (option_map casting) (name_read mesh x is))
  event_read a (Send x d) range =
      reads_event mesh a (casting (addr_at mesh x)) (codes "send") (TwoAddresses (addr_at mesh x) (addr_at mesh d)) (word_lacks 32 (codes "send") refl) (name_fits x, name_fits d) tt
      (two_clean x d) (λ r. refl) (ap (λ o. option_map casting (option_map (λ (ends : ℕ × ℕ). ends.0) o)) (ends_read mesh x d is))
  event_read a (Ask x d) range =
      reads_event mesh a (casting (addr_at mesh x)) (codes "ask") (TwoAddresses (addr_at mesh x) (addr_at mesh d)) (word_lacks 32 (codes "ask") refl) (name_fits x, name_fits d) tt
      (two_clean x d) (λ r. refl) (ap (λ o. option_map casting (option_map (λ (ends : ℕ × ℕ). ends.0) o)) (ends_read mesh x d is))
  event_read a (Link x y) range =
      reads_event mesh a below.Link (codes "link") (TwoAddresses (addr_at mesh x) (addr_at mesh y)) (word_lacks 32 (codes "link") refl) (name_fits x, name_fits y) tt
      (two_clean x y) (λ r. refl) (ap (λ b. cond b (Some below.Link) None) (names_are mesh x y is))
  event_read a (Cut x y) range =
      reads_event mesh a below.Link (codes "cut") (TwoAddresses (addr_at mesh x) (addr_at mesh y)) (word_lacks 32 (codes "cut") refl) (name_fits x, name_fits y) tt
      (two_clean x y) (λ r. refl) (ap (λ b. cond b (Some below.Link) None) (names_are mesh x y is))
  event_read a (Deliver id) range =
      let number = range.2 in
      reads_event mesh a (below.Delivers id) (codes "deliver") (OneNumber id) (word_lacks 32 (codes "deliver") refl) tt (omega (arith, number.1))
      (decimal_clean id) (λ r. refl) (ap (option_map below.Delivers) (number_read id number.0 number.1))
  event_read a (Lose id) range =
      let number = range.2 in
      reads_event mesh a (below.Loses id) (codes "lose") (OneNumber id) (word_lacks 32 (codes "lose") refl) tt (omega (arith, number.1))
      (decimal_clean id) (λ r. refl) (ap (option_map below.Loses) (number_read id number.0 number.1))
  event_read a (Double id) range =
      let number = range.2 in
      reads_event mesh a (below.Doubles id) (codes "copy") (OneNumber id) (word_lacks 32 (codes "copy") refl) tt (omega (arith, number.1))
      (decimal_clean id) (λ r. refl) (ap (option_map below.Doubles) (number_read id number.0 number.1))
