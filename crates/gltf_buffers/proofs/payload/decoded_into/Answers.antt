use Rattle.std.proofs.Common.{length}
use Rattle.base64.proofs.Decoding.{conservative_small, conservative_ok, conservative_err}
use Rattle.gltf_buffers.proofs.payload.decoded_into.Goals as goal

pub unreachable-requires : goal.unreachable-requires
unreachable-requires c =
    let e = c.args.decoder.now in
    conservative_small e.decode_table c.args.text.now e.padding.value
    e.config.decode_allow_trailing_bits e.config.decode_padding_mode
    (length c.args.bytes.now) c.decode_slice.result c.in-Err-OutputSliceTooSmall.field-0
    c.requires c.decode_slice.ensures.value c.in-Err-OutputSliceTooSmall.is
    c.in-Err-OutputSliceTooSmall.field-0-is

pub returns-in-Ok-clause-ok : goal.returns-in-Ok-clause-ok
returns-in-Ok-clause-ok c =
    let e = c.args.decoder.now in
    conservative_ok e.decode_table c.args.text.now c.args.bytes.now c.decode_slice.new.output
    e.padding.value e.config.decode_allow_trailing_bits e.config.decode_padding_mode
    c.decode_slice.result c.in-Ok.count
    c.requires c.decode_slice.ensures.value c.in-Ok.is c.decode_slice.ensures.written

pub returns-in-Err-DecodeError-clause-err : goal.returns-in-Err-DecodeError-clause-err
returns-in-Err-DecodeError-clause-err c =
    let e = c.args.decoder.now in
    conservative_err e.decode_table c.args.text.now e.padding.value
    e.config.decode_allow_trailing_bits e.config.decode_padding_mode
    (length c.args.bytes.now) c.decode_slice.result c.in-Err-DecodeError.field-0
    c.in-Err-DecodeError.fault
    c.requires c.decode_slice.ensures.value c.in-Err-DecodeError.is c.in-Err-DecodeError.field-0-is
