-- The last line of a run that has read its whole input is read as a summary.
use Rattle.std.proofs.Common.{◌≡◌, ℕ, zero, suc, ◌≤◌, true, eqb, cond, not, ◌&&◌, ◌||◌, List, [], ◌∷◌, ◌++◌, codes, Some, None, refl, sym, ap, subst, ◌∙◌, arith, append_assoc, append-nil}
use Rattle.std.specs.List.{AllByRecursion, list_all, join_with_byte}
use Rattle.std.specs.Fmt.{decimal}
use Rattle.std.proofs.lemmas.Bool.{and_from, and_parts}
use Rattle.std.proofs.Math.Bool.{or-true}
use Rattle.mesh_base.specs.Meshes.{Nodes}
use Rattle.mesh_base.proofs.WrittenForms.{Lacks}
use Rattle.mesh_grammar.specs.Commands.{greatest_id}
use Rattle.mesh_grammar.specs.Written.{line, label_number}
use Rattle.mesh_text.specs.Lines.{copied_words, summary_text}
use Rattle.mesh_text.specs.Schedule.{Sums}
use Rattle.mesh_text.proofs.Clean.{is_clean, decimal_clean, clean_append}
use Rattle.mesh_lines.specs.declared.below.Below.TheVariants as below
use Rattle.mesh_lines.specs.declared.form.Field.{Field}
use Rattle.mesh_lines.specs.declared.form.Field.TheVariants.{Copied, Positive}
use Rattle.mesh_lines.specs.Forms.{are, fits}
use Rattle.mesh_lines.specs.Lines.{number, counts_and, is_summary}
use Rattle.mesh_capture.proofs.EventLines.{one_is, number_fits, positive_fits}
use Rattle.mesh_capture.proofs.OtherLines.{with_below, reads_other}
use Rattle.mesh_capture.proofs.Told.{Stand, Reads}
use Rattle.mesh_capture.proofs.Words.{word_lacks, words_apart, number_lacks}

-- what is counted has 64 bits
pub record IsCounted (s : Sums) (waits queues flies : ℕ) : Type 0 where
  pub events : s.events ≤ greatest_id
  pub idle : s.idle ≤ greatest_id
  pub given : s.given ≤ greatest_id
  pub delivered : s.delivered ≤ greatest_id
  pub waiting : waits ≤ greatest_id
  pub queued : queues ≤ greatest_id
  pub flying : flies ≤ greatest_id
  pub lost : s.lost ≤ greatest_id
  pub copied : s.copied ≤ greatest_id

-- ---- the words

-- those from `events` on, with these after them
abbrev words_with : Sums → (waits queues flies : ℕ) → List (List ℕ) → List (List ℕ)
words_with s waits queues flies ws =
    codes "events" ∷ decimal s.events ∷ codes "idle" ∷ decimal s.idle ∷ codes "given" ∷ decimal s.given ∷ codes "delivered" ∷ decimal s.delivered ∷ codes "waiting" ∷ decimal waits ∷ codes "queued" ∷ decimal queues
    ∷ codes "flying" ∷ decimal flies ∷ codes "lost" ∷ decimal s.lost ∷ ws

flat : (a b c d e f g h : List ℕ) → a ++ b ++ c ++ d ++ e ++ f ++ g ++ h ≡ a ++ (b ++ (c ++ (d ++ (e ++ (f ++ (g ++ h))))))
flat a b c d e f g h = simp append_assoc

nested : (a b c d e f g h k l m n o p q t : List ℕ)
    → (a ++ (b ++ (c ++ (d ++ (e ++ (f ++ (g ++ (h ++ (k ++ (l ++ (m ++ (n ++ (o ++ (p ++ q)))))))))))))) ++ t
    ≡ a ++ (b ++ (c ++ (d ++ (e ++ (f ++ (g ++ (h ++ (k ++ (l ++ (m ++ (n ++ (o ++ (p ++ (q ++ t))))))))))))))
nested a b c d e f g h k l m n o p q t = simp append_assoc

-- the line, with what stands behind `lost`
all_text : (e i g d w q f rest : List ℕ)
    → (codes "done events " ++ e) ++ (codes " idle " ++ i) ++ (codes " given " ++ g) ++ (codes " delivered " ++ d) ++ (codes " waiting " ++ w) ++ (codes " queued " ++ q) ++ (codes " flying " ++ f) ++ line (codes " lost " ++ rest)
    ≡ line (codes "done events " ++ (e ++ (codes " idle " ++ (i ++ (codes " given " ++ (g ++ (codes " delivered " ++ (d ++ (codes " waiting " ++ (w ++ (codes " queued " ++ (q ++ (codes " flying " ++ (f ++ (codes " lost " ++ rest)))))))))))))))
all_text e i g d w q f rest =
    flat (codes "done events " ++ e) (codes " idle " ++ i) (codes " given " ++ g) (codes " delivered " ++ d) (codes " waiting " ++ w) (codes " queued " ++ q) (codes " flying " ++ f) (line (codes " lost " ++ rest))
    ∙ ap (λ t. codes "done events " ++ t)
    (sym (nested e (codes " idle ") i (codes " given ") g (codes " delivered ") d (codes " waiting ") w (codes " queued ") q (codes " flying ") f (codes " lost ") rest (10 ∷ [])))

plain_text : (e i g d w q f l : List ℕ)
    → (codes "done events " ++ e) ++ (codes " idle " ++ i) ++ (codes " given " ++ g) ++ (codes " delivered " ++ d) ++ (codes " waiting " ++ w) ++ (codes " queued " ++ q) ++ (codes " flying " ++ f) ++ line (codes " lost " ++ (l ++ []))
    ≡ line (join_with_byte 32 (codes "done" ∷ codes "events" ∷ e ∷ codes "idle" ∷ i ∷ codes "given" ∷ g ∷ codes "delivered" ∷ d ∷ codes "waiting" ∷ w ∷ codes "queued" ∷ q ∷ codes "flying" ∷ f ∷ codes "lost" ∷ l ∷ []))
plain_text e i g d w q f l =
    all_text e i g d w q f (l ++ [])
    ∙ ap (λ t. line (codes "done events " ++ (e ++ (codes " idle " ++ (i ++ (codes " given " ++ (g ++ (codes " delivered " ++ (d ++ (codes " waiting " ++ (w ++ (codes " queued " ++ (q ++ (codes " flying " ++ (f ++ (codes " lost " ++ t)))))))))))))))) (append-nil l)

copied_text : (e i g d w q f l c : List ℕ)
    → (codes "done events " ++ e) ++ (codes " idle " ++ i) ++ (codes " given " ++ g) ++ (codes " delivered " ++ d) ++ (codes " waiting " ++ w) ++ (codes " queued " ++ q) ++ (codes " flying " ++ f) ++ line (codes " lost " ++ (l ++ (codes " copied " ++ c)))
    ≡ line (join_with_byte 32 (codes "done" ∷ codes "events" ∷ e ∷ codes "idle" ∷ i ∷ codes "given" ∷ g ∷ codes "delivered" ∷ d ∷ codes "waiting" ∷ w ∷ codes "queued" ∷ q ∷ codes "flying" ∷ f ∷ codes "lost" ∷ l ∷ codes "copied" ∷ c ∷ []))
copied_text e i g d w q f l c = all_text e i g d w q f (l ++ (codes " copied " ++ c))

-- a number before other words
counted : (n : ℕ) (fields : List Field) (ws : List (List ℕ)) → n ≤ greatest_id → are fields ws ≡ true → are (number ∷ fields) (decimal n ∷ ws) ≡ true
counted n fields ws le rest = and_from (fits number (decimal n)) (are fields ws) (number_fits greatest_id n le (omega arith)) rest

words_are : (s : Sums) (waits queues flies : ℕ) (fields : List Field) (ws : List (List ℕ)) → IsCounted s waits queues flies → are fields ws ≡ true → are (counts_and fields) (words_with s waits queues flies ws) ≡ true
words_are s waits queues flies fields ws is rest =
    counted s.events (number ∷ number ∷ number ∷ number ∷ number ∷ number ∷ number ∷ fields) (decimal s.idle ∷ decimal s.given ∷ decimal s.delivered ∷ decimal waits ∷ decimal queues ∷ decimal flies ∷ decimal s.lost ∷ ws) is.events
    (counted s.idle (number ∷ number ∷ number ∷ number ∷ number ∷ number ∷ fields) (decimal s.given ∷ decimal s.delivered ∷ decimal waits ∷ decimal queues ∷ decimal flies ∷ decimal s.lost ∷ ws) is.idle
    (counted s.given (number ∷ number ∷ number ∷ number ∷ number ∷ fields) (decimal s.delivered ∷ decimal waits ∷ decimal queues ∷ decimal flies ∷ decimal s.lost ∷ ws) is.given
    (counted s.delivered (number ∷ number ∷ number ∷ number ∷ fields) (decimal waits ∷ decimal queues ∷ decimal flies ∷ decimal s.lost ∷ ws) is.delivered
    (counted waits (number ∷ number ∷ number ∷ fields) (decimal queues ∷ decimal flies ∷ decimal s.lost ∷ ws) is.waiting
    (counted queues (number ∷ number ∷ fields) (decimal flies ∷ decimal s.lost ∷ ws) is.queued
    (counted flies (number ∷ fields) (decimal s.lost ∷ ws) is.flying
    (counted s.lost fields ws is.lost rest)))))))

join_clean : (w : List ℕ) (ws : List (List ℕ)) → AllByRecursion (λ l. is_clean l ≡ true) (w ∷ ws) → is_clean (join_with_byte 32 (w ∷ ws)) ≡ true
join_clean w [] clean = clean.0
join_clean w (v ∷ ws) clean = clean_append w (32 ∷ join_with_byte 32 (v ∷ ws)) clean.0 (join_clean v ws clean.1)

-- what holds of each of the words
module _ (s : Sums) (waits queues flies : ℕ) (P : List ℕ → Type 0) (word : (w : List ℕ) → list_all (λ b. not (eqb b 32)) w && is_clean w ≡ true → P w) (digits : (n : ℕ) → n ≤ greatest_id → P (decimal n)) where
  each_word : (ws : List (List ℕ)) → IsCounted s waits queues flies → AllByRecursion P ws → AllByRecursion P (codes "done" ∷ words_with s waits queues flies ws)
  each_word ws is rest = (
    word (codes "done") refl,
    (
      word (codes "events") refl,
      (
        digits s.events is.events,
        (
          word (codes "idle") refl,
          (
            digits s.idle is.idle,
            (
              word (codes "given") refl,
              (
                digits s.given is.given,
                (
                  word (codes "delivered") refl,
                  (
                    digits s.delivered is.delivered,
                    (word (codes "waiting") refl, (digits waits is.waiting, (word (codes "queued") refl, (digits queues is.queued, (word (codes "flying") refl, (digits flies is.flying, (word (codes "lost") refl, (digits s.lost is.lost, rest)))))))),
                  ),
                ),
              ),
            ),
          ),
        ),
      ),
    ),
  )

line_reads : (mesh : Nodes) (a : Stand) (s : Sums) (waits queues flies : ℕ) (ws : List (List ℕ)) → IsCounted s waits queues flies → AllByRecursion (Lacks 32) ws → AllByRecursion (λ l. is_clean l ≡ true) ws
    → is_summary (words_with s waits queues flies ws) ≡ true
    → Reads mesh a (line (join_with_byte 32 (codes "done" ∷ words_with s waits queues flies ws))) [] (with_below a below.Nothing)
line_reads mesh a s waits queues flies ws is lack clean summary =
    reads_other mesh a below.Nothing (join_with_byte 32 (codes "done" ∷ words_with s waits queues flies ws)) (codes "done") (words_with s waits queues flies ws)
    (join_clean (codes "done") (words_with s waits queues flies ws) (each_word s waits queues flies (λ l. is_clean l ≡ true) (λ w both. (and_parts _ (is_clean w) both).1) (λ n le. decimal_clean n) ws is clean))
    (λ r. refl)
    (words_apart (codes "done") (words_with s waits queues flies ws) (each_word s waits queues flies (Lacks 32) (λ w both. word_lacks 32 w (and_parts _ (is_clean w) both).0) (λ n le. number_lacks 32 n (omega arith) le) ws is lack))
    refl
    (ap (λ b. cond b (Some below.Nothing) None) summary)

summary_by : (mesh : Nodes) (a : Stand) (s : Sums) (waits queues flies : ℕ) (copied : ℕ) → IsCounted s waits queues flies → copied ≤ greatest_id
    → Reads mesh a (label_number (codes "done events ") s.events ++ label_number (codes " idle ") s.idle ++ label_number (codes " given ") s.given ++ label_number (codes " delivered ") s.delivered
    ++ label_number (codes " waiting ") waits ++ label_number (codes " queued ") queues ++ label_number (codes " flying ") flies ++ line (label_number (codes " lost ") s.lost ++ copied_words copied)) [] (with_below a below.Nothing)
summary_by mesh a s waits queues flies zero is le =
    let ws : List (List ℕ) = words_with s waits queues flies [] in
    subst (λ t. Reads mesh a t [] (with_below a below.Nothing)) (sym (plain_text (decimal s.events) (decimal s.idle) (decimal s.given) (decimal s.delivered) (decimal waits) (decimal queues) (decimal flies) (decimal s.lost)))
    (line_reads mesh a s waits queues flies [] is tt tt (ap (λ b. b || are (counts_and (Copied ∷ Positive greatest_id ∷ [])) ws) (words_are s waits queues flies [] [] is refl)))
summary_by mesh a s waits queues flies (suc c) is le =
    let more : List (List ℕ) = codes "copied" ∷ decimal (suc c) ∷ [] in
    let ws : List (List ℕ) = words_with s waits queues flies more in
    let last : are (Copied ∷ Positive greatest_id ∷ []) more ≡ true = one_is (Positive greatest_id) (decimal (suc c)) (positive_fits greatest_id (suc c) (omega arith) le (omega arith)) in
    subst (λ t. Reads mesh a t [] (with_below a below.Nothing)) (sym (copied_text (decimal s.events) (decimal s.idle) (decimal s.given) (decimal s.delivered) (decimal waits) (decimal queues) (decimal flies) (decimal s.lost) (decimal (suc c))))
    (line_reads mesh a s waits queues flies more is (word_lacks 32 (codes "copied") refl, (number_lacks 32 (suc c) (omega arith) le, tt)) (refl, (decimal_clean (suc c), tt))
    (ap (λ b. are (counts_and []) ws || b) (words_are s waits queues flies (Copied ∷ Positive greatest_id ∷ []) more is last) ∙ or-true (are (counts_and []) ws)))

pub summary_reads : (mesh : Nodes) (a : Stand) (s : Sums) (waits queues flies : ℕ) → IsCounted s waits queues flies → Reads mesh a (summary_text s waits queues flies) [] (with_below a below.Nothing)
unfolding summary_text
summary_reads mesh a s waits queues flies is = summary_by mesh a s waits queues flies s.copied is is.copied
