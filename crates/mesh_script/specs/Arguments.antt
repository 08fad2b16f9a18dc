-- The definitions' arguments for the code's.
use Rattle.std.specs.Prelude.{ℕ, ◌+◌, ◌*◌, length, Result, Ok, Err}
use Rattle.mesh_base.specs.declared.addr.Addr.{Addr}
use Rattle.mesh_grammar.specs.declared.fault.LineFault.{LineFault}
use Rattle.mesh_grammar.specs.Words as words
use Rattle.mesh_grammar.specs.Forms as forms
use Rattle.mesh_script.specs.declared.forms.Arguments.{Arguments}
use Rattle.mesh_script.specs.declared.forms.Arguments.TheVariants as arguments
use Rattle.mesh_script.specs.declared.print.TheConstants.{ADDRESS_ARGUMENT, NUMBER_ARGUMENT}
use Rattle.mesh_script.specs.declared.words.SpannedAddr.{SpannedAddr}

abbrev pub spanned_of : SpannedAddr → words.SpannedAddr
spanned_of a = record { address = (a.addr).0; span = a.span }

-- the definitions' arguments for the code's, with `f` of each address
abbrev pub arguments_by : {A B : Type 0} → (A → B) → Arguments A → forms.Arguments B
arguments_by f arguments.NoArgument = forms.NoArgument
arguments_by f (arguments.OneAddress a) = forms.OneAddress (f a)
arguments_by f (arguments.TwoAddresses a b) = forms.TwoAddresses (f a) (f b)
arguments_by f (arguments.OneNumber n) = forms.OneNumber n
arguments_by f (arguments.NumberedAddress a first) = forms.NumberedAddress (f a) first
arguments_by f (arguments.AddressesAndText a b text) = forms.AddressesAndText (f a) (f b) text.now
arguments_by f (arguments.AddressAndNumber a n) = forms.AddressAndNumber (f a) n
arguments_by f (arguments.AddressAndText a text) = forms.AddressAndText (f a) text.now

-- the definitions' arguments for the code's as they are read, indexed in a mesh, and written
abbrev pub all_spanned_of : Arguments SpannedAddr → forms.Arguments words.SpannedAddr
all_spanned_of a = arguments_by spanned_of a

abbrev pub indices_of : Arguments ℕ → forms.Arguments ℕ
indices_of a = arguments_by (λ x. x) a

abbrev pub addresses_of : Arguments Addr → forms.Arguments ℕ
addresses_of a = arguments_by (λ x. x.0) a

-- the definitions' arguments for the code's as they are read and indexed, or the fault
abbrev pub all_spanned_in : Result (Arguments SpannedAddr) LineFault
    → Result (forms.Arguments words.SpannedAddr) LineFault
all_spanned_in (Ok a) = Ok (all_spanned_of a)
all_spanned_in (Err f) = Err f

abbrev pub indices_in : Result (Arguments ℕ) LineFault → Result (forms.Arguments ℕ) LineFault
indices_in (Ok a) = Ok (indices_of a)
indices_in (Err f) = Err f

-- the most bytes that written arguments have, each with the space before it; between an address and
-- its number is the word "sn"
abbrev pub width_of : forms.Arguments ℕ → ℕ
width_of forms.NoArgument = 0
width_of (forms.OneAddress a) = ADDRESS_ARGUMENT
width_of (forms.TwoAddresses a b) = 2 * ADDRESS_ARGUMENT
width_of (forms.OneNumber n) = NUMBER_ARGUMENT
width_of (forms.NumberedAddress a first) = ADDRESS_ARGUMENT + 3 + NUMBER_ARGUMENT
width_of (forms.AddressesAndText a b text) = 2 * ADDRESS_ARGUMENT + 1 + length text
width_of (forms.AddressAndNumber a n) = ADDRESS_ARGUMENT + NUMBER_ARGUMENT
width_of (forms.AddressAndText a text) = ADDRESS_ARGUMENT + 1 + length text
