use Rattle.std.proofs.Common.{◌≡◌, ◌<◌, ◌+◌, subst, arith, inl, inr, IsTrue}
use Rattle.aodv_asked.proofs.TopLaws.{new_top, new_top_behind, under_top, under_top_behind, top_down, near_under, near_above}
use Rattle.aodv_asked.proofs.ids.Ids.insert_beside.Goals as goal

pub push-requires-clause-room : goal.push-requires-clause-room
push-requires-clause-room c =
    let above : c.args.top.last + 1 < c.args.id = elim c.requires.apart [ inl below ↦ absurd (omega (arith, c.requires.some)) | inr lt ↦ lt ] in
    elim c.requires.room [
      | inl some ↦ some
      | inr near ↦ absurd (near_above c.args.self.now.ids c.args.top c.args.id c.requires.behind c.requires.some above near)
    ]

pub returns-then-top-id-clause-ids : goal.returns-then-top-id-clause-ids
returns-then-top-id-clause-ids c = new_top c.args.self.now.ids c.push.new.self.ids c.args.top c.args.id c.push.ensures.ids

pub returns-then-top-id-clause-behind : goal.returns-then-top-id-clause-behind
returns-then-top-id-clause-behind c =
    let above : c.args.top.last + 1 < c.args.id = elim c.requires.apart [ inl below ↦ absurd (omega (arith, c.requires.some)) | inr lt ↦ lt ] in
    new_top_behind c.args.self.now.ids c.push.new.self.ids c.args.top c.args.id c.push.ensures.ids c.requires.behind c.requires.some above

pub insert-requires : goal.insert-requires
insert-requires c = elim c.requires.room [
  | inl some ↦ inl some
  | inr near ↦ inr (subst IsTrue (near_under c.args.self.now.ids c.args.top c.args.id c.if-id-top.true) near)
]

pub returns-then-id-top-clause-ids : goal.returns-then-id-top-clause-ids
returns-then-id-top-clause-ids c = under_top c.args.self.now.ids c.insert.new.self.ids c.args.top c.args.id c.insert.ensures.ids

pub returns-then-id-top-clause-behind : goal.returns-then-id-top-clause-behind
returns-then-id-top-clause-behind c = under_top_behind c.args.self.now.ids c.insert.new.self.ids c.args.top c.args.id c.insert.ensures.ids c.requires.behind c.if-id-top.true

pub returns-clause-ids : goal.returns-clause-ids
returns-clause-ids c =
    let next : c.args.id + 1 ≡ c.args.top.first = elim c.requires.apart [ inl below ↦ omega arith | inr above ↦ absurd (omega arith) ] in
    top_down c.args.self.now.ids c.take_up_to.new.self.ids c.args.top c.args.id c.take_up_to.result c.take_up_to.ensures.ids c.take_up_to.ensures.within next c.requires.some

pub returns-clause-some : goal.returns-clause-some
returns-clause-some c =
    let next : c.args.id + 1 ≡ c.args.top.first = elim c.requires.apart [ inl below ↦ omega arith | inr above ↦ absurd (omega arith) ] in
    omega (arith, c.take_up_to.ensures.within, c.requires.some)
