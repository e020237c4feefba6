use Rattle.std.proofs.Common.{rules, ◌≡◌, ◌<◌, ◌∙◌, ◌++◌, ap, arith, get_or, length, map, subst, sym, take}
use Rattle.std.proofs.lemmas.List.{map-append}
use Rattle.std.proofs.lemmas.List.Elements.{All-append}
use Rattle.std.specs.List.{All}
use Rattle.mesh_walk.specs.Fans.{seen}
use Rattle.mesh_walk.specs.declared.centres.RowFan.{RowFan}
use Rattle.mesh_walk.proofs.RowFans.{listed_two, low_two, put_two}
use Rattle.mesh_walk.proofs.centres.fill_fans.Goals as goal

pub returns-clause-put : goal.returns-clause-put
returns-clause-put c =
    let fans = c.args.fans.now in
    let at = c.args.at in
    let result = c.fans_of.result in
    let two : length result ≡ 2 = search rules in
    ap (map seen) (put_two fans _ _ at c.centre_count.result (omega (arith, c.centre_count.ensures.value, c.fans_of.ensures.few)) (omega (arith, c.told-fans, c.requires.room)))
    ∙ (map-append seen (take at fans) _
    ∙ ap (λ l. map seen (take at fans) ++ l) (listed_two c.args.case c.args.x c.centre_count.result result two c.centre_count.ensures.value c.fans_of.ensures.value))

pub returns-clause-low : goal.returns-clause-low
returns-clause-low c before =
    let fans = c.args.fans.now in
    let at = c.args.at in
    let result = c.fans_of.result in
    let two : length result ≡ 2 = search rules in
    subst (All (λ (f : RowFan). f.fan < 115)) (sym (put_two fans _ _ at c.centre_count.result (omega (arith, c.centre_count.ensures.value, c.fans_of.ensures.few)) (omega (arith, c.told-fans, c.requires.room))))
    (All-append (λ (f : RowFan). f.fan < 115) (take at fans) _ before
    (low_two c.args.x (get_or result 0 0) (get_or result 1 0) c.centre_count.result (c.fans_of.ensures.low 0 0 (omega (arith, two))) (c.fans_of.ensures.low 1 0 (omega (arith, two)))))
