-- Lists of words that go on, and words that no row has.
use Rattle.std.proofs.Common.{◌≡◌, ℕ, ◌<◌, List, [], ◌∷◌, Some, Ok, Err, length, refl, ap, ◌∙◌, arith, sym}
use Rattle.std.specs.List.{join_with_byte}
use Rattle.std.proofs.lemmas.List.Splits.{join_with_byte-slice_split}
use Rattle.mesh_base.specs.Addresses.{address_of}
use Rattle.mesh_base.specs.Numbers.{number_up_to, positive}
use Rattle.mesh_base.specs.Parts.{parts}
use Rattle.mesh_base.proofs.AddressLaws.{address_word, number_word}
use Rattle.mesh_base.proofs.Lemmas.Lists.{some_parts}
use Rattle.mesh_grammar.specs.declared.fault.LineFault.TheVariants.{Count}
use Rattle.mesh_grammar.specs.Words.{SpannedAddr, next_at, span_at, address_at, text_at}
use Rattle.mesh_grammar.specs.Forms as forms
use Rattle.mesh_grammar.proofs.Canonical.{positive_is}

none : (ps : List (List ℕ)) (made : forms.Arguments SpannedAddr) → 0 < length ps → forms.no_argument ps made ≡ Err Count
none [] made h = absurd (omega arith)
none (p ∷ ps) made h = refl

pub no_argument_some : (rest : List ℕ) (made : forms.Arguments SpannedAddr) → forms.no_argument (parts 32 rest) made ≡ Err Count
no_argument_some rest made = none (parts 32 rest) made (some_parts 32 rest)

one : (at : ℕ) (a : List ℕ) (ps : List (List ℕ)) → 0 < length ps → forms.one_address at (a ∷ ps) forms.OneAddress ≡ Err Count
one at a [] h = absurd (omega arith)
one at a (p ∷ ps) h = refl

pub one_address_more : (at : ℕ) (a rest : List ℕ) → forms.one_address at (a ∷ parts 32 rest) forms.OneAddress ≡ Err Count
one_address_more at a rest = one at a (parts 32 rest) (some_parts 32 rest)

two : (at : ℕ) (a b : List ℕ) (ps : List (List ℕ)) → 0 < length ps → forms.two_addresses at (a ∷ b ∷ ps) forms.TwoAddresses ≡ Err Count
two at a b [] h = absurd (omega arith)
two at a b (p ∷ ps) h = refl

pub two_addresses_more : (at : ℕ) (a b rest : List ℕ) → forms.two_addresses at (a ∷ b ∷ parts 32 rest) forms.TwoAddresses ≡ Err Count
two_addresses_more at a b rest = two at a b (parts 32 rest) (some_parts 32 rest)

one_n : (most at : ℕ) (a : List ℕ) (ps : List (List ℕ)) (make : ℕ → forms.Arguments SpannedAddr) → 0 < length ps
    → forms.one_number most at (a ∷ ps) make ≡ Err Count
one_n most at a [] make h = absurd (omega arith)
one_n most at a (p ∷ ps) make h = refl

pub one_number_more : (most at : ℕ) (a rest : List ℕ) (make : ℕ → forms.Arguments SpannedAddr) → forms.one_number most at (a ∷ parts 32 rest) make ≡ Err Count
one_number_more most at a rest make = one_n most at a (parts 32 rest) make (some_parts 32 rest)

three : (at : ℕ) (a b c : List ℕ) (ps : List (List ℕ)) → 0 < length ps → forms.numbered_address at (a ∷ b ∷ c ∷ ps) forms.NumberedAddress ≡ Err Count
unfolding forms.numbered_address
three at a b c [] h = absurd (omega arith)
three at a b c (p ∷ ps) h = refl

pub numbered_address_more : (at : ℕ) (a b c rest : List ℕ) → forms.numbered_address at (a ∷ b ∷ c ∷ parts 32 rest) forms.NumberedAddress ≡ Err Count
numbered_address_more at a b c rest = three at a b c (parts 32 rest) (some_parts 32 rest)

text_of_rest : (at : ℕ) (a b : List ℕ) (ps : List (List ℕ)) → 0 < length ps
    → forms.addresses_and_text at (a ∷ b ∷ ps) forms.AddressesAndText ≡ address_at at a (λ x. address_at (next_at at a) b (λ y.
    text_at (next_at (next_at at a) b) (join_with_byte 32 ps) (λ body. Ok (forms.AddressesAndText x y body))))
unfolding forms.addresses_and_text
text_of_rest at a b [] h = absurd (omega arith)
text_of_rest at a b (p ∷ ps) h = refl

pub addresses_and_text_of : (at : ℕ) (a b text : List ℕ)
    → forms.addresses_and_text at (a ∷ b ∷ parts 32 text) forms.AddressesAndText ≡ address_at at a (λ x. address_at (next_at at a) b (λ y.
    text_at (next_at (next_at at a) b) text (λ body. Ok (forms.AddressesAndText x y body))))
addresses_and_text_of at a b text =
    text_of_rest at a b (parts 32 text) (some_parts 32 text) ∙ rw (join_with_byte-slice_split 32 text) refl

two_and_number : (most at : ℕ) (a b : List ℕ) (ps : List (List ℕ)) → 0 < length ps
    → forms.address_and_number most at (a ∷ b ∷ ps) forms.AddressAndNumber ≡ Err Count
two_and_number most at a b [] h = absurd (omega arith)
two_and_number most at a b (p ∷ ps) h = refl

pub address_and_number_more : (most at : ℕ) (a b rest : List ℕ)
    → forms.address_and_number most at (a ∷ b ∷ parts 32 rest) forms.AddressAndNumber ≡ Err Count
address_and_number_more most at a b rest = two_and_number most at a b (parts 32 rest) (some_parts 32 rest)

text_after : (at : ℕ) (a : List ℕ) (ps : List (List ℕ)) → 0 < length ps
    → forms.address_and_text at (a ∷ ps) forms.AddressAndText
    ≡ address_at at a (λ x. text_at (next_at at a) (join_with_byte 32 ps) (λ body. Ok (forms.AddressAndText x body)))
unfolding forms.address_and_text
text_after at a [] h = absurd (omega arith)
text_after at a (p ∷ ps) h = refl

pub address_and_text_of : (at : ℕ) (a text : List ℕ)
    → forms.address_and_text at (a ∷ parts 32 text) forms.AddressAndText
    ≡ address_at at a (λ x. text_at (next_at at a) text (λ body. Ok (forms.AddressAndText x body)))
address_and_text_of at a text =
    text_after at a (parts 32 text) (some_parts 32 text) ∙ rw (join_with_byte-slice_split 32 text) refl

-- ---- an address or a number is the only word of what it is read from

pub only_address : (at : ℕ) (text : List ℕ) (m : SpannedAddr) → address_of text ≡ Some (m.address) → m.span ≡ span_at at text
    → forms.one_address at (parts 32 text) forms.OneAddress ≡ Ok (forms.OneAddress m)
only_address at text m h span_is =
    ap (λ ps. forms.one_address at ps forms.OneAddress) (address_word text m.address h)
    ∙ rw h (ap (λ s. Ok (forms.OneAddress (record { address = m.address; span = s }))) (sym span_is))

pub only_number : (most at : ℕ) (text : List ℕ) (n : ℕ) → positive (number_up_to most text) ≡ Some n
    → (make : ℕ → forms.Arguments SpannedAddr) → forms.one_number most at (parts 32 text) make ≡ Ok (make n)
only_number most at text n h make =
    ap (λ ps. forms.one_number most at ps make) (number_word most text n (positive_is (number_up_to most text) n h))
    ∙ rw h refl
