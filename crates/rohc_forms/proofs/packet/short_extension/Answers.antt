use Rattle.std.proofs.Common.{rules, arith}
use Rattle.rohc_forms.specs.Packets.{said_by}
use Rattle.rohc_forms.proofs.ShortLemmas.{read_two, read_three, cut_second, cut_third}
use Rattle.rohc_forms.proofs.packet.short_extension.Goals as goal

pub returns-in_err-second : goal.returns-in_err-second
returns-in_err-second c =
    let cut = cut_second c.args.kind c.args.first (said_by c.args.fields) c.args.cursor.now _ (omega (arith, c.if-first-lt64.false)) c.in_err-second.ensures in
    search rules

pub returns-then-first-lt128 : goal.returns-then-first-lt128
returns-then-first-lt128 c =
    let read = read_two c.args.kind c.args.first c.in_ok-second.second (said_by c.args.fields) c.args.cursor.now c.octet.new.cursor (omega (arith, c.if-first-lt64.false)) c.if-first-lt128.true (search rules) c.in_ok-second.ensures in
    search rules

pub returns-in_err-third : goal.returns-in_err-third
returns-in_err-third c =
    let cut = cut_third c.args.kind c.args.first c.in_ok-second.second (said_by c.args.fields) c.args.cursor.now c.octet.new.cursor _ (omega (arith, c.if-first-lt128.false)) c.in_ok-second.ensures c.in_err-third.ensures in
    search rules

pub returns : goal.returns
returns c =
    let read = read_three c.args.kind c.args.first c.in_ok-second.second c.in_ok-third.third (said_by c.args.fields) c.args.cursor.now c.octet.new.cursor c.octet-2.new.cursor (omega (arith, c.if-first-lt128.false)) (search rules) (search rules)
    c.in_ok-second.ensures c.in_ok-third.ensures in
    search rules
