use Prim.Native.Nat.{ℕ}
use mathlib.Core.Path.{◌≡◌, ◌∙◌, sym, ap}
use mathlib.Core.List.{List, [], ◌∷◌, ◌++◌}
use Rattle.clock.specs.Timestamp.{tick}
use Rattle.reset.specs.Clock.{vector}
use Rattle.reset.specs.State.{Item as NetworkItem, message, Station as NetworkStation, link_at, set_station, set_link, put_on}
use Rattle.reset.proofs.Views.{link_set-station}
use Rattle.reset.specs.Steps.{entry, entry_of, sending}
use Rattle.station.specs.View.{station_view}
use Rattle.link.specs.Image.{item_of}
use Rattle.reset_rules.proofs.TurnLaws.{set_link-set}
use Rattle.area.specs.Layout.{image}
use Rattle.step_parts.specs.Answers.{stepped_of}
use Rattle.enter_send.proofs.send_message.Goals as goal

pub returns : goal.returns
unfolding item_of
returns c =
    let g = c.args in
    let i : ℕ = g.i in
    let j : ℕ = g.j in
    let x : NetworkStation vector = sending i j (station_view g.s) in
    let m : NetworkItem vector = message (tick i g.s.counts) g.register in
    let z : station_view c.sending-x.result ≡ x = c.sending-x.ensures in
    record {
      answer = rw c.entry.ensures (ap (λ (q : NetworkStation vector). stepped_of (entry (entry_of 2 i j g.register q 0))) z);
      area = λ d s e.
          c.put_station.ensures d _ (c.push_at.ensures d s e)
          ∙ ap (λ (q : NetworkStation vector). image d (set_station (put_on s i j (message q.time g.register)) i q)) z
          ∙ ap (image d) (sym (set_link-set s i j i (link_at s i j ++ (m ∷ [])) x))
          ∙ ap (λ (l : List (NetworkItem vector)). image d (set_link (set_station s i x) i j (l ++ (m ∷ [])))) (sym (link_set-station s i x i j));
    }
