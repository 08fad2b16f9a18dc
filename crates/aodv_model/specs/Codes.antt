-- Codes for the model's states, so that a type of the code can have one as its view. They are no
-- part of the protocol.
use Rattle.std.specs.Prelude.{◌≡◌, ℕ, ◌⊎◌, Bool, true, false, List, refl}
use Rattle.std.proofs.Common.{inl, inr}
use Rattle.std.specs.Coded.{Coded, code_by, coded×, coded⊎, coded_ℕ, coded_bool, coded_list}
use Rattle.std.specs.FinMap as maps
use Rattle.std.specs.FinSet as sets
use Rattle.mesh_base.specs.Members.{NodeIds}
use Rattle.mesh_base.specs.declared.events.Variant.{Variant}
use Rattle.mesh_base.specs.declared.events.Variant.TheVariants.{Base, Number, Reply, Error}
use Rattle.aodv_model.specs.declared.entry.Entry.{Entry}
use Rattle.aodv_model.specs.declared.entry.Known.{Known}
use Rattle.aodv_model.specs.declared.entry.Known.TheVariants.{Kno, Unk}
use Rattle.aodv_model.specs.declared.entry.Flag.{Flag}
use Rattle.aodv_model.specs.declared.entry.Flag.TheVariants.{Val, Inv}
use Rattle.aodv_model.specs.Quality.{is_kno, is_val}
use Rattle.aodv_model.specs.Pairs.{Pairs}
use Rattle.aodv_model.specs.Tables.{Table, Dests}
use Rattle.aodv_model.specs.Cores.{Body, RouteRequest, RouteReply, Message, Pkt, Rreq, Rrep, Rerr, Item, New, Heard, Waiting, Store, Core}

abbrev known_of : Bool → Known
known_of true = Kno
known_of false = Unk

pub known_back : (k : Known) → known_of (is_kno k) ≡ k
known_back Kno = refl
known_back Unk = refl

-- a code for whether a number is known
abbrev pub known_code : Coded Known
known_code = code_by Bool coded_bool is_kno known_of known_back

abbrev flag_of : Bool → Flag
flag_of true = Val
flag_of false = Inv

pub flag_back : (f : Flag) → flag_of (is_val f) ≡ f
flag_back Val = refl
flag_back Inv = refl

-- a code for flags
abbrev pub flag_code : Coded Flag
flag_code = code_by Bool coded_bool is_val flag_of flag_back

abbrev bits : Variant → Bool × Bool
bits Base = (false, false)
bits Number = (false, true)
bits Reply = (true, false)
bits Error = (true, true)

abbrev variant_of : Bool → Bool → Variant
variant_of false false = Base
variant_of false true = Number
variant_of true false = Reply
variant_of true true = Error

pub variant_back : (v : Variant) → variant_of (bits v).0 (bits v).1 ≡ v
variant_back Base = refl
variant_back Number = refl
variant_back Reply = refl
variant_back Error = refl

-- a code for variants
abbrev pub variant_code : Coded Variant
variant_code =
    code_by (Bool × Bool) (coded× coded_bool coded_bool) bits (λ p. variant_of p.0 p.1) variant_back

-- a code for entries
abbrev pub entry_code : Coded Entry
entry_code =
    code_by (ℕ × (Known × (Flag × (ℕ × (ℕ × NodeIds)))))
    (coded× coded_ℕ
    (coded× known_code
    (coded× flag_code (coded× coded_ℕ (coded× coded_ℕ (sets.code coded_ℕ))))))
    (λ e. (e.dsn, (e.dsk, (e.flag, (e.hops, (e.next, e.pre))))))
    (λ p. record {
      dsn = p.0;
      dsk = p.1.0;
      flag = p.1.1.0;
      hops = p.1.1.1.0;
      next = p.1.1.1.1.0;
      pre = p.1.1.1.1.1;
    })
    (λ _. refl)

-- a code for tables
abbrev pub table_code : Coded Table
table_code = maps.code coded_ℕ entry_code

-- a code for route requests
abbrev pub request_code : Coded RouteRequest
request_code =
    code_by (ℕ × (ℕ × (ℕ × (ℕ × (Known × (ℕ × ℕ))))))
    (coded× coded_ℕ
    (coded× coded_ℕ
    (coded× coded_ℕ (coded× coded_ℕ (coded× known_code (coded× coded_ℕ coded_ℕ))))))
    (λ m. (m.hops, (m.id, (m.dip, (m.dsn, (m.dsk, (m.oip, m.osn)))))))
    (λ p. record {
      hops = p.0;
      id = p.1.0;
      dip = p.1.1.0;
      dsn = p.1.1.1.0;
      dsk = p.1.1.1.1.0;
      oip = p.1.1.1.1.1.0;
      osn = p.1.1.1.1.1.1;
    })
    (λ _. refl)

-- a code for route replies
abbrev pub reply_code : Coded RouteReply
reply_code =
    code_by (ℕ × (ℕ × (ℕ × ℕ))) (coded× coded_ℕ (coded× coded_ℕ (coded× coded_ℕ coded_ℕ)))
    (λ m. (m.hops, (m.dip, (m.dsn, m.oip))))
    (λ p. record { hops = p.0; dip = p.1.0; dsn = p.1.1.0; oip = p.1.1.1 })
    (λ _. refl)

abbrev Parts : Type 0
Parts = (Body × (ℕ × ℕ)) ⊎ (RouteRequest ⊎ (RouteReply ⊎ Dests))

abbrev parts : Message → Parts
parts (Pkt b d o) = inl (b, (d, o))
parts (Rreq m) = inr (inl m)
parts (Rrep m) = inr (inr (inl m))
parts (Rerr dests) = inr (inr (inr dests))

abbrev message_of : Parts → Message
message_of (inl p) = Pkt p.0 p.1.0 p.1.1
message_of (inr (inl m)) = Rreq m
message_of (inr (inr (inl m))) = Rrep m
message_of (inr (inr (inr dests))) = Rerr dests

pub message_back : (m : Message) → message_of (parts m) ≡ m
message_back (Pkt b d o) = refl
message_back (Rreq m) = refl
message_back (Rrep m) = refl
message_back (Rerr dests) = refl

-- a code for messages
abbrev pub message_code : Coded Message
message_code =
    code_by Parts
    (coded⊎ (coded× (coded_list coded_ℕ) (coded× coded_ℕ coded_ℕ))
    (coded⊎ request_code
    (coded⊎ reply_code (maps.code coded_ℕ coded_ℕ)))) parts message_of message_back

abbrev item_parts : Item → (Body × ℕ) ⊎ (ℕ × Message)
item_parts (New b d) = inl (b, d)
item_parts (Heard from m) = inr (from, m)

abbrev item_of : (Body × ℕ) ⊎ (ℕ × Message) → Item
item_of (inl p) = New p.0 p.1
item_of (inr p) = Heard p.0 p.1

pub item_back : (i : Item) → item_of (item_parts i) ≡ i
item_back (New b d) = refl
item_back (Heard from m) = refl

-- a code for items
abbrev pub item_code : Coded Item
item_code =
    code_by ((Body × ℕ) ⊎ (ℕ × Message))
    (coded⊎ (coded× (coded_list coded_ℕ) coded_ℕ)
    (coded× coded_ℕ message_code)) item_parts item_of item_back

-- a code for waiting data
abbrev pub waiting_code : Coded Waiting
waiting_code =
    code_by (Bool × List Body) (coded× coded_bool (coded_list (coded_list coded_ℕ)))
    (λ s. (s.needs_request, s.bodies)) (λ p. record { needs_request = p.0; bodies = p.1 })
    (λ _. refl)

-- a code for sets of pairs
abbrev pub pairs_code : Coded Pairs
pairs_code = sets.code (coded× coded_ℕ coded_ℕ)

-- a code for cores
abbrev pub core_code : Coded Core
core_code =
    code_by (ℕ × (Variant × (ℕ × (Table × (Pairs × Store)))))
    (coded× coded_ℕ
    (coded× variant_code
    (coded× coded_ℕ (coded× table_code (coded× pairs_code (maps.code coded_ℕ waiting_code))))))
    (λ c. (c.ip, (c.variant, (c.sn, (c.rt, (c.seen, c.store))))))
    (λ p. record {
      ip = p.0;
      variant = p.1.0;
      sn = p.1.1.0;
      rt = p.1.1.1.0;
      seen = p.1.1.1.1.0;
      store = p.1.1.1.1.1;
    })
    (λ _. refl)
