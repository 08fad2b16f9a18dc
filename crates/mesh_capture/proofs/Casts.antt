-- What is cast: a datum only where one was taken that passes no test, and to a group only where the group has a node.
use Rattle.std.proofs.Common.{◌≡◌, ℕ, false, refl}
use Rattle.std.specs.Prelude.{⊤}
use Rattle.std.specs.FinMap as maps
use Rattle.aodv_model.specs.Cores.{Core, Item, Message, Pkt, bodies_in}
use Rattle.aodv_model.specs.Handlers.{All, Cast, Many, Nothing, One, Reaction, ask, broken_by, error_cast, first_body, forward_own_entry, forward_reply, forward_request, is_empty, link_broken, on_rerr, reply_for_self, reply_from_table, retract, send, turn, unicast}
use Rattle.aodv_model.specs.Tables.{Dests, Table, nhop, unreachable_by}
use Rattle.mesh_base.specs.Members.{NodeIds}
use Rattle.mesh_base.specs.declared.events.Variant.{Variant}
use Rattle.mesh_model.specs.Accounts.{Test, counts, in_item, in_message}
use Rattle.aodv_model.proofs.Reactions.{unicast_case, error_case, data_error_case, turn_cases, send_cases}

-- no datum of the cast passes the test, and its group isn't empty
abbrev pub IsFair : Test → Cast → Type 0
IsFair t Nothing = ⊤
IsFair t (One y m) = in_message t m ≡ 0
IsFair t (Many s m) = (is_empty s ≡ false) × (in_message t m ≡ 0)
IsFair t (All m) = in_message t m ≡ 0

-- the same of a reaction's cast
abbrev pub CastsFairly : Test → Reaction → Type 0
CastsFairly t did = IsFair t (did.effect).cast

module _ (t : Test) where
  error_fair : (variant : Variant) (rt : Table) (dests : Dests) → IsFair t (error_cast variant rt dests)
  error_fair variant rt dests = error_case (IsFair t) variant rt dests tt (λ _. refl) (λ some. (some, refl))

  retract_fair : (core : Core) (dests : Dests) → CastsFairly t (retract core dests)
  unfolding retract
  retract_fair core dests = error_fair core.variant core.rt dests

  broken_fair : (core : Core) (y : ℕ) → CastsFairly t (broken_by y (link_broken core y))
  unfolding link_broken
  broken_fair core y = retract_fair core (unreachable_by core.rt y)

  unicast_fair : (core : Core) (m : Message) (y : ℕ) (range : NodeIds) → in_message t m ≡ 0 → CastsFairly t (unicast core m y range)
  unicast_fair core m y range none = unicast_case (CastsFairly t) core m y range (λ _. none) (broken_fair core y)

  pub turn_fair : (core : Core) (range : NodeIds) (x : ℕ) (item : Item) → in_item t x item ≡ 0 → CastsFairly t (turn core range item)
  unfolding reply_for_self reply_from_table forward_request forward_reply forward_own_entry on_rerr
  turn_fair core range x = turn_cases core range (λ item did. in_item t x item ≡ 0 → CastsFairly t did) (record {
    own = λ b d _ none. tt;
    stored = λ b d _ none. tt;
    arrived = λ from b d o _ none. tt;
    forwarded = λ from b d o _ none. unicast_fair core (Pkt b d o) (nhop core.rt d) range none;
    dropped = λ from b d o none. data_error_case (IsFair t) core d tt refl (λ some. (some, refl));
    known = λ from m none. tt;
    answered = λ from m _ _ none. unicast_fair _ _ _ range refl;
    vouched = λ from m _ _ _ none. unicast_fair _ _ _ range refl;
    flooded = λ from m _ none. refl;
    ended = λ from m none. tt;
    passed = λ from m _ none. unicast_fair _ _ _ range refl;
    restated = λ from m _ none. unicast_fair _ _ _ range refl;
    withdrawn = λ from dests none. retract_fair _ _;
  })

  pub send_fair : (core : Core) (range : NodeIds) (d : ℕ) → counts t core.ip d (first_body (bodies_in (maps.get core.store d))) ≡ 0 → CastsFairly t (send core range d)
  send_fair core range d none = send_cases (CastsFairly t) core range d (λ _. none) (broken_fair core (nhop core.rt d))

  pub ask_fair : (core : Core) (d : ℕ) → CastsFairly t (ask core d)
  unfolding ask
  ask_fair core d = refl
