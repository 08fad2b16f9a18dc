-- What was written and sent, one after another.
use Rattle.std.proofs.Common.{◌≡◌, ℕ, ◌≤◌, List, [], ◌∷◌, ◌++◌, Option, Result, Ok, Err, refl, sym, ap, ◌∙◌, subst, append_assoc, append-nil, arith}
use Rattle.std.specs.Io.KnownBytes.{Appends}
use Rattle.std.specs.Result.{IsErr}
use Rattle.mesh_io.specs.Puts.{AppendsPrefix}
use Rattle.mesh_io.proofs.Writing.{Appends-none}
use Rattle.mesh_link.specs.Datagrams.{Datagram}
use Rattle.mesh_router.specs.declared.stop.Stop.{Stop}
use Rattle.mesh_router.specs.Logs.{Log, Byte, Sent, nothing, text_log, followed_by, text_of, sent_of}
use Rattle.mesh_router.specs.Joins.{sends-none, adds-none, adds-join}
use Rattle.mesh_router.specs.Outputs.{Outputs, SendsAll, Adds, AddsPrefix, Says}

-- ---- a log

pub log-nil-left : (a : Log) → followed_by nothing a ≡ a
log-nil-left a = refl

pub log-nil : (a : Log) → followed_by a nothing ≡ a
log-nil a = append-nil a

pub log-assoc : (a b c : Log) → followed_by (followed_by a b) c ≡ followed_by a (followed_by b c)
log-assoc a b c = append_assoc a b c

pub written-append : (a b : List ℕ) → text_log (a ++ b) ≡ followed_by (text_log a) (text_log b)
unfolding text_log
written-append [] b = refl
written-append (c ∷ cs) b = ap (λ (s : Log). Byte c ∷ s) (written-append cs b)

-- ---- its text and its datagrams

text-written : (text : List ℕ) → text_of (text_log text) ≡ text
unfolding text_of text_log
text-written [] = refl
text-written (c ∷ cs) = ap (λ (l : List ℕ). c ∷ l) (text-written cs)

sent-written : (text : List ℕ) → sent_of (text_log text) ≡ []
unfolding sent_of text_log
sent-written [] = refl
sent-written (c ∷ cs) = sent-written cs

text-sent : (d : Datagram) → text_of (Sent d ∷ []) ≡ []
unfolding text_of
text-sent d = refl

sent-sent : (d : Datagram) → sent_of (Sent d ∷ []) ≡ d ∷ []
unfolding sent_of
sent-sent d = refl

-- ---- both

pub adds-equal : (a b : Outputs) (x y : Log) → x ≡ y → Adds a b x → Adds a b y
adds-equal a b x y e p = subst (Adds a b) e p

pub prefix-none : (a : Outputs) (x : Log) → AddsPrefix a a x
prefix-none a x = record { prefix = nothing; rest = x; whole = refl; adds = adds-none a }

pub prefix-join : (a b c : Outputs) (x y : Log) → Adds a b x → AddsPrefix b c y → AddsPrefix a c (followed_by x y)
prefix-join a b c x y p q = record {
  prefix = followed_by x q.prefix;
  rest = q.rest;
  whole = ap (followed_by x) q.whole ∙ sym (log-assoc x q.prefix q.rest);
  adds = adds-join a b c x q.prefix p q.adds;
}

pub prefix-more : (a b : Outputs) (x y : Log) → AddsPrefix a b x → AddsPrefix a b (followed_by x y)
prefix-more a b x y p = record {
  prefix = p.prefix;
  rest = followed_by p.rest y;
  whole = ap (λ s. followed_by s y) p.whole ∙ log-assoc p.prefix p.rest y;
  adds = p.adds;
}

pub prefix-whole : (a b : Outputs) (x : Log) → Adds a b x → AddsPrefix a b x
prefix-whole a b x p = record { prefix = x; rest = nothing; whole = sym (log-nil x); adds = p }

-- a log, and then more
pub says-join : {T : Type 0} (a b c : Outputs) (x y : Log) (r : Result T Stop) → Adds a b x → Says b c y r → Says a c (followed_by x y) r
says-join a b c x y (Ok v) p q = adds-join a b c x y p q
says-join a b c x y (Err e) p q = prefix-join a b c x y p q

-- it ends with the log of the first
pub says-fault : {T : Type 0} (a b : Outputs) (x : Log) (r : Result T Stop) → IsErr r → AddsPrefix a b x → Says a b x r
says-fault a b x (Ok v) is p = absurd cc
says-fault a b x (Err e) is p = p

-- ---- a text alone, and a datagram alone

pub adds-text : (a b : Option (List ℕ)) (s t : Option (List Datagram)) (text : List ℕ) → t ≡ s → Appends a b text → Adds (a, s) (b, t) (text_log text)
adds-text a b s t text same p = record {
  text = subst (λ (l : List ℕ). Appends a b l) (sym (text-written text)) p;
  sent = subst (λ (l : List Datagram). SendsAll s t l) (sym (sent-written text)) (same ∙ sends-none s);
}

pub adds-datagram : (a : Option (List ℕ)) (s t : Option (List Datagram)) (d : Datagram) → SendsAll s t (d ∷ []) → Adds (a, s) (a, t) (Sent d ∷ [])
adds-datagram a s t d p = record {
  text = subst (λ (l : List ℕ). Appends a a l) (sym (text-sent d)) (Appends-none a);
  sent = subst (λ (l : List Datagram). SendsAll s t l) (sym (sent-sent d)) p;
}

-- a prefix of the text was written, and nothing was sent
pub prefix-text : (a b : Option (List ℕ)) (s t : Option (List Datagram)) (text : List ℕ) → t ≡ s → AppendsPrefix a b text → AddsPrefix (a, s) (b, t) (text_log text)
prefix-text a b s t text same p = record {
  prefix = text_log p.prefix;
  rest = text_log p.rest;
  whole = ap text_log p.whole ∙ written-append p.prefix p.rest;
  adds = adds-text a b s t p.prefix same p.grown;
}

-- the text was written, and nothing after it was sent
pub prefix-unsent : (a b : Option (List ℕ)) (s t : Option (List Datagram)) (text : List ℕ) (others : Log) → t ≡ s → Appends a b text → AddsPrefix (a, s) (b, t) (followed_by (text_log text) others)
prefix-unsent a b s t text others same p = record {
  prefix = text_log text;
  rest = others;
  whole = refl;
  adds = adds-text a b s t text same p;
}
