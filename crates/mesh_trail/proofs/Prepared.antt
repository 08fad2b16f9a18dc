-- What is prepared for an event.
use Rattle.std.proofs.Common.{◌≡◌, ℕ, List, Result, Ok, subst}
use Rattle.std.specs.Prelude.{slice_get}
use Rattle.mesh_base.specs.declared.events.Done.{Done}
use Rattle.mesh_model.specs.Worlds as model
use Rattle.mesh_world.specs.Seen.{WorldSeen}
use Rattle.mesh_world.specs.declared.steps.StepError.{StepError}
use Rattle.mesh_trail.specs.declared.heard.Front.{Front}
use Rattle.mesh_trail.specs.declared.heard.Front.TheVariants as fronts
use Rattle.mesh_trail.specs.declared.parts.Parts.{Parts}
use Rattle.mesh_trail.specs.Heard.{front_of}
use Rattle.mesh_trail.specs.Steps.{IsOwnOf}
use Rattle.mesh_trail.specs.Preparations.{HasDone, HasAnswered, IsAnsweredIn, IsCastPrepared, IsCopyPrepared, IsNodePrepared, IsPreparedFor}

-- ---- the world alone is another

cast_in : (w v : WorldSeen) (p : Parts) → IsCastPrepared w p → IsCastPrepared w (record p { world = v })
cast_in w v p r = record { room = r.room; first = r.first }

node_in : (x : ℕ) (front : Front) (w v : WorldSeen) (p : Parts) → IsNodePrepared x front w p → IsNodePrepared x front w (record p { world = v })
node_in x front w v p r = record { node = r.node; inside = r.inside; waits = r.waits; lists = r.lists; known = r.known; cast = cast_in w v p r.cast }

copy_in : (id to : ℕ) (v : WorldSeen) (p : Parts) → IsCopyPrepared id to p → IsCopyPrepared id to (record p { world = v })
copy_in id to v p r = record { receiver = r.receiver; list = r.list; room = r.room }

pub prepared_in : (e : model.Event) (w v : WorldSeen) (p : Parts) → IsPreparedFor e w p → IsPreparedFor e w (record p { world = v })
prepared_in (model.Give x d b) w v p r = r
prepared_in (model.Turn x) w v p r = node_in x (front_of (slice_get (w.world).nodes x)) w v p r
prepared_in (model.Send x d) w v p r = node_in x fronts.New w v p r
prepared_in (model.Ask x d) w v p r = node_in x fronts.New w v p r
prepared_in (model.Link a b) w v p r = tt
prepared_in (model.Cut a b) w v p r = tt
prepared_in (model.Deliver id) w v p r = λ c is. copy_in id c.to v p (r c is)
prepared_in (model.Lose id) w v p r = tt
prepared_in (model.Double id) w v p r = record { list = r.list; cast = cast_in w v p r.cast }

-- ---- what is done

pub own_prepared : (x : ℕ) (e : model.Event) (w : WorldSeen) (p : Parts) → IsOwnOf x e → IsPreparedFor e w p → IsNodePrepared x fronts.New w p
own_prepared x (model.Give y d b) w p own r = absurd own
own_prepared x (model.Turn y) w p own r = absurd own
own_prepared x (model.Send y d) w p own r = subst (λ (z : ℕ). IsNodePrepared z fronts.New w p) own r
own_prepared x (model.Ask y d) w p own r = subst (λ (z : ℕ). IsNodePrepared z fronts.New w p) own r
own_prepared x (model.Link a b) w p own r = absurd own
own_prepared x (model.Cut a b) w p own r = absurd own
own_prepared x (model.Deliver id) w p own r = absurd own
own_prepared x (model.Lose id) w p own r = absurd own
own_prepared x (model.Double id) w p own r = absurd own

pub done_so : (e f : model.Event) (p : Parts) (answer : Result Done StepError) (d : Done) (packet : List ℕ) → e ≡ f → answer ≡ Ok d → HasAnswered e p answer packet → HasDone f p d packet
done_so e f p answer d packet same ok a = (a.0, subst (λ (g : model.Event). IsAnsweredIn g a.0 p (Ok d) packet) same (subst (λ (r : Result Done StepError). IsAnsweredIn e a.0 p r packet) ok a.1))
