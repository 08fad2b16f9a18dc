-- The lines of a run that are no events: a node, a choice of events and its end, and those that show something.
use Rattle.std.proofs.Common.{◌≡◌, ℕ, ◌≤◌, true, cond, ◌&&◌, ◌||◌, List, [], ◌∷◌, ◌++◌, codes, Some, None, refl, ap, ap₂, arith}
use Rattle.std.proofs.Math.Bool.{and-false}
use Rattle.std.specs.Prelude.{is_some}
use Rattle.std.specs.Fmt.{decimal}
use Rattle.mesh_base.specs.declared.limits.TheConstants.{MOST_EVENTS}
use Rattle.mesh_base.specs.Addresses.{dotted_decimal}
use Rattle.mesh_base.specs.Meshes.{Nodes, IsMesh, addr_at}
use Rattle.mesh_base.specs.Parts.{parts}
use Rattle.mesh_base.proofs.WrittenForms.{Lacks, address_of-dotted}
use Rattle.mesh_grammar.specs.Forms.{Arguments, NoArgument, OneAddress, TwoAddresses, OneNumber, NumberedAddress, greatest_first}
use Rattle.mesh_grammar.specs.Laws.{HaveAddresses}
use Rattle.mesh_grammar.specs.Written.{line, command_text}
use Rattle.mesh_grammar.proofs.CommandLines.{words_in, HaveNumbers, words_written}
use Rattle.mesh_text.specs.Auto.{auto_end}
use Rattle.mesh_text.specs.Lines.{name_of, words_of}
use Rattle.mesh_text.specs.Ranges.{IsNewNode}
use Rattle.mesh_text.specs.Schedule.{NewNode, Chooses, ShowsNode, ShowsRoute, ShowsFlight}
use Rattle.mesh_text.proofs.Clean.{is_clean, name_clean, decimal_clean, dotted_clean, clean_append}
use Rattle.mesh_lines.specs.declared.below.Below.{Below}
use Rattle.mesh_lines.specs.declared.below.Below.TheVariants as below
use Rattle.mesh_lines.specs.declared.form.Field.TheVariants.{Address, Positive, UpTo, Did}
use Rattle.mesh_lines.specs.Forms.{are, fits}
use Rattle.mesh_lines.specs.Belows.{event_by, other_by}
use Rattle.mesh_capture.specs.Copies.{Reading, after_outer, line_by, outer}
use Rattle.mesh_capture.proofs.EventLines.{one_is, names_are, number_fits, positive_fits}
use Rattle.mesh_capture.proofs.Told.{Stand, Reads, reading_of, reads_outer}
use Rattle.mesh_capture.proofs.Words.{word_lacks, words_apart, number_lacks, is_name, address_fits}

-- another line, with this below it
abbrev pub with_below : Stand → Below → Stand
with_below a b = record a { below = b }

pub reads_other : (mesh : Nodes) (a : Stand) (b : Below) (text word : List ℕ) (words : List (List ℕ)) → is_clean text ≡ true → ((r : Reading) → line_by r text ≡ outer r (parts 32 text)) → parts 32 text ≡ word ∷ words
    → event_by word words ≡ None → other_by word words ≡ Some b → Reads mesh a (line text) [] (with_below a b)
reads_other mesh a b text word words clean plain cut none found =
    reads_outer mesh a (with_below a b) text word words clean plain cut (λ k. ap₂ (λ o p. after_outer (reading_of mesh a k) o p) none found)

-- a command's line that is no event
reads_command : (mesh : Nodes) (a : Stand) (b : Below) (word : List ℕ) (arguments : Arguments ℕ) → Lacks 32 word → HaveAddresses arguments → HaveNumbers arguments
    → is_clean (command_text word arguments) ≡ true → ((r : Reading) → line_by r (command_text word arguments) ≡ outer r (parts 32 (command_text word arguments)))
    → event_by word (words_in arguments) ≡ None → other_by word (words_in arguments) ≡ Some b → Reads mesh a (line (command_text word arguments)) [] (with_below a b)
reads_command mesh a b word arguments lacks fit low clean plain none found =
    reads_other mesh a b (command_text word arguments) word (words_in arguments) clean plain (words_written word lacks arguments fit low) none found

module _ (mesh : Nodes) (is : IsMesh mesh) where
  pub auto_reads : (a : Stand) (count : ℕ) → 1 ≤ count → count ≤ MOST_EVENTS → Reads mesh a (line (words_of mesh (Chooses count))) [] (with_below a below.Nothing)
  unfolding words_of command_text words_in HaveNumbers
  auto_reads a count some few =
      reads_command mesh a below.Nothing (codes "auto") (OneNumber count) (word_lacks 32 (codes "auto") refl) tt (omega arith) (decimal_clean count) (λ r. refl) refl
      (ap (λ b. cond (b || are (Did ∷ UpTo MOST_EVENTS ∷ []) (decimal count ∷ [])) (Some below.Nothing) None) (one_is (Positive MOST_EVENTS) (decimal count) (positive_fits MOST_EVENTS count some few (omega arith))))

  pub auto_end_reads : (a : Stand) (did : ℕ) → did ≤ MOST_EVENTS → Reads mesh a (auto_end did) [] (with_below a below.Nothing)
  auto_end_reads a did few =
      reads_other mesh a below.Nothing (codes "auto did " ++ decimal did) (codes "auto") (codes "did" ∷ decimal did ∷ []) (decimal_clean did) (λ r. refl)
      (words_apart (codes "auto") (codes "did" ∷ decimal did ∷ []) (word_lacks 32 (codes "auto") refl, (word_lacks 32 (codes "did") refl, (number_lacks 32 did (omega arith) (omega arith), tt)))) refl
      (ap₂ (λ x y. cond (x || y) (Some below.Nothing) None) (and-false (fits (Positive MOST_EVENTS) (codes "did"))) (one_is (UpTo MOST_EVENTS) (decimal did) (number_fits MOST_EVENTS did few (omega arith))))

  pub node_line_reads : (a : Stand) (address first : ℕ) → IsNewNode mesh address first → Reads mesh a (line (words_of mesh (NewNode address first))) [] (with_below a below.Nothing)
  unfolding words_of command_text words_in HaveNumbers
  node_line_reads a address first new =
      let number : are (Positive greatest_first ∷ []) (decimal first ∷ []) ≡ true = one_is (Positive greatest_first) (decimal first) (positive_fits greatest_first first new.positive new.most (omega arith)) in
      let most = new.most in
      reads_command mesh a below.Nothing (codes "node") (NumberedAddress address first) (word_lacks 32 (codes "node") refl) new.fits (omega arith)
      (clean_append (dotted_decimal address ++ codes " sn ") (decimal first) (clean_append (dotted_decimal address) (codes " sn ") (dotted_clean address) refl) (decimal_clean first)) (λ r. refl) refl
      (ap₂ (λ x y. cond (x && y) (Some below.Nothing) None) (ap is_some (address_of-dotted address new.fits)) number)

  pub show_reads : (a : Stand) (x : ℕ) → Reads mesh a (line (words_of mesh (ShowsNode x))) [] (with_below a below.Node)
  unfolding words_of command_text words_in HaveNumbers
  show_reads a x =
      reads_command mesh a below.Node (codes "show") (OneAddress (addr_at mesh x)) (word_lacks 32 (codes "show") refl) (address_fits mesh x is) tt (name_clean mesh x) (λ r. refl) refl
      (ap (λ b. cond b (Some below.Node) None) (one_is Address (name_of mesh x) (is_name mesh x is)))

  pub route_reads : (a : Stand) (x d : ℕ) → Reads mesh a (line (words_of mesh (ShowsRoute x d))) [] (with_below a below.Route)
  unfolding words_of command_text words_in HaveNumbers
  route_reads a x d =
      reads_command mesh a below.Route (codes "route") (TwoAddresses (addr_at mesh x) (addr_at mesh d)) (word_lacks 32 (codes "route") refl) (address_fits mesh x is, address_fits mesh d is) tt
      (clean_append (name_of mesh x) (32 ∷ name_of mesh d) (name_clean mesh x) (name_clean mesh d)) (λ r. refl) refl
      (ap (λ b. cond b (Some below.Route) None) (names_are mesh x d is))

  pub flight_reads : (a : Stand) → Reads mesh a (line (words_of mesh ShowsFlight)) [] (with_below a below.Flight)
  unfolding words_of command_text words_in HaveNumbers
  flight_reads a = reads_command mesh a below.Flight (codes "flight") NoArgument (word_lacks 32 (codes "flight") refl) tt tt refl (λ r. refl) refl refl
