-- The codes of findings: their names and severities, as the Khronos validator has them, and what
-- each says.
use Rattle.std.specs.Prelude.{List, ℕ, Bool, true, ◌==◌, codes}
use Rattle.gltf_findings.specs.declared.code.Code.{Code}
use Rattle.gltf_findings.specs.declared.code.Code.TheVariants as code
use Rattle.gltf_findings.specs.declared.code.Severity.{Severity}
use Rattle.gltf_findings.specs.declared.code.Severity.TheVariants as grave

abbrev pub code_text : Code → List ℕ
code_text code.UnresolvedReference = codes "UNRESOLVED_REFERENCE"
code_text code.ValueNotInList = codes "VALUE_NOT_IN_LIST"
code_text code.InvalidAttribute = codes "MESH_PRIMITIVE_INVALID_ATTRIBUTE"
code_text code.UndefinedProperty = codes "UNDEFINED_PROPERTY"
code_text code.OneOfMismatch = codes "ONE_OF_MISMATCH"
code_text code.UnsatisfiedDependency = codes "UNSATISFIED_DEPENDENCY"
code_text code.RequiredExtension = codes "UNSUPPORTED_EXTENSION"
code_text code.UnusedExtensionRequired = codes "UNUSED_EXTENSION_REQUIRED"
code_text code.UnsupportedExtension = codes "UNSUPPORTED_EXTENSION"
code_text code.EmptyEntity = codes "EMPTY_ENTITY"
code_text code.ValueNotInRange = codes "VALUE_NOT_IN_RANGE"
code_text code.ValueMultipleOf = codes "VALUE_MULTIPLE_OF"
code_text code.ViewTooBigByteStride = codes "BUFFER_VIEW_TOO_BIG_BYTE_STRIDE"
code_text code.ViewTooLong = codes "BUFFER_VIEW_TOO_LONG"
code_text code.OffsetAlignment = codes "ACCESSOR_OFFSET_ALIGNMENT"
code_text code.TotalOffsetAlignment = codes "ACCESSOR_TOTAL_OFFSET_ALIGNMENT"
code_text code.AccessorTooLong = codes "ACCESSOR_TOO_LONG"
code_text code.SmallByteStride = codes "ACCESSOR_SMALL_BYTESTRIDE"
code_text code.NormalizedInvalid = codes "ACCESSOR_NORMALIZED_INVALID"
code_text code.SparseCountOutOfRange = codes "ACCESSOR_SPARSE_COUNT_OUT_OF_RANGE"
code_text code.ImageViewWithByteStride = codes "IMAGE_BUFFER_VIEW_WITH_BYTESTRIDE"
code_text code.AlphaCutoffInvalidMode = codes "MATERIAL_ALPHA_CUTOFF_INVALID_MODE"
code_text code.NoPosition = codes "MESH_PRIMITIVE_NO_POSITION"
code_text code.TangentWithoutNormal = codes "MESH_PRIMITIVE_TANGENT_WITHOUT_NORMAL"
code_text code.UnequalAccessorCount = codes "MESH_PRIMITIVE_UNEQUAL_ACCESSOR_COUNT"
code_text code.PositionWithoutBounds = codes "MESH_PRIMITIVE_POSITION_ACCESSOR_WITHOUT_BOUNDS"
code_text code.IndicesInvalidFormat = codes "MESH_PRIMITIVE_INDICES_ACCESSOR_INVALID_FORMAT"
code_text code.IndicesWithByteStride = codes "MESH_PRIMITIVE_INDICES_ACCESSOR_WITH_BYTESTRIDE"
code_text code.NodeParentOverride = codes "NODE_PARENT_OVERRIDE"
code_text code.NodeMatrixTrs = codes "NODE_MATRIX_TRS"
code_text code.IbmInvalidFormat = codes "SKIN_IBM_INVALID_FORMAT"
code_text code.IbmCount = codes "INVALID_IBM_ACCESSOR_COUNT"
code_text code.ChannelTargetMatrix = codes "ANIMATION_CHANNEL_TARGET_NODE_MATRIX"
code_text code.InputInvalidFormat = codes "ANIMATION_SAMPLER_INPUT_ACCESSOR_INVALID_FORMAT"
code_text code.InputWithoutBounds = codes "ANIMATION_SAMPLER_INPUT_ACCESSOR_WITHOUT_BOUNDS"
code_text code.InputTooFewElements = codes "ANIMATION_SAMPLER_INPUT_ACCESSOR_TOO_FEW_ELEMENTS"
code_text code.UnusedObject = codes "UNUSED_OBJECT"
code_text code.IoError = codes "IO_ERROR"
code_text code.GlbInvalidVersion = codes "GLB_INVALID_VERSION"
code_text code.GlbLengthTooSmall = codes "GLB_LENGTH_TOO_SMALL"
code_text code.GlbLengthMismatch = codes "GLB_LENGTH_MISMATCH"
code_text code.GlbUnexpectedEndOfHeader = codes "GLB_UNEXPECTED_END_OF_HEADER"
code_text code.GlbUnexpectedEndOfChunkHeader = codes "GLB_UNEXPECTED_END_OF_CHUNK_HEADER"
code_text code.GlbChunkTooBig = codes "GLB_CHUNK_TOO_BIG"
code_text code.GlbUnexpectedFirstChunk = codes "GLB_UNEXPECTED_FIRST_CHUNK"
code_text code.GlbDuplicateChunk = codes "GLB_DUPLICATE_CHUNK"
code_text code.InvalidJson = codes "INVALID_JSON"
code_text code.TypeMismatch = codes "TYPE_MISMATCH"
code_text code.ArrayTypeMismatch = codes "ARRAY_TYPE_MISMATCH"
code_text code.InvalidUri = codes "INVALID_URI"
code_text code.BufferMissingGlbData = codes "BUFFER_MISSING_GLB_DATA"
code_text code.BufferByteLengthMismatch = codes "BUFFER_BYTE_LENGTH_MISMATCH"
code_text code.PatternMismatch = codes "PATTERN_MISMATCH"
code_text code.UnknownMajorVersion = codes "UNKNOWN_ASSET_MAJOR_VERSION"
code_text code.MinVersionGreaterThanVersion = codes "ASSET_MIN_VERSION_GREATER_THAN_VERSION"
code_text code.UndeclaredExtension = codes "UNDECLARED_EXTENSION"
code_text code.DuplicateElements = codes "DUPLICATE_ELEMENTS"
code_text code.ViewTargetMissing = codes "BUFFER_VIEW_TARGET_MISSING"
code_text code.IndexedSemanticContinuity = codes "MESH_PRIMITIVE_INDEXED_SEMANTIC_CONTINUITY"
code_text code.JointsWeightsMismatch = codes "MESH_PRIMITIVE_JOINTS_WEIGHTS_MISMATCH"
code_text code.AttributeInvalidFormat = codes "MESH_PRIMITIVE_ATTRIBUTES_ACCESSOR_INVALID_FORMAT"
code_text code.AttributeUnaligned = codes "MESH_PRIMITIVE_ACCESSOR_UNALIGNED"
code_text code.IncompatibleMode = codes "MESH_PRIMITIVE_INCOMPATIBLE_MODE"
code_text code.TooFewTexcoords = codes "MESH_PRIMITIVE_TOO_FEW_TEXCOORDS"
code_text code.MorphTargetNoBaseAccessor = codes "MESH_PRIMITIVE_MORPH_TARGET_NO_BASE_ACCESSOR"
code_text code.MorphTargetInvalidCount = codes "MESH_PRIMITIVE_MORPH_TARGET_INVALID_ATTRIBUTE_COUNT"
code_text code.UnequalTargetsCount = codes "MESH_PRIMITIVES_UNEQUAL_TARGETS_COUNT"
code_text code.MeshInvalidWeightsCount = codes "MESH_INVALID_WEIGHTS_COUNT"
code_text code.NodeLoop = codes "NODE_LOOP"
code_text code.NodeEmpty = codes "NODE_EMPTY"
code_text code.NodeWeightsInvalid = codes "NODE_WEIGHTS_INVALID"
code_text code.SkinWithNonSkinnedMesh = codes "NODE_SKIN_WITH_NON_SKINNED_MESH"
code_text code.SkinnedMeshWithoutSkin = codes "NODE_SKINNED_MESH_WITHOUT_SKIN"
code_text code.SceneNonRootNode = codes "SCENE_NON_ROOT_NODE"
code_text code.SkinNoCommonRoot = codes "SKIN_NO_COMMON_ROOT"
code_text code.SkinSkeletonInvalid = codes "SKIN_SKELETON_INVALID"
code_text code.CameraZfarLequalZnear = codes "CAMERA_ZFAR_LEQUAL_ZNEAR"
code_text code.DuplicateTargets = codes "ANIMATION_DUPLICATE_TARGETS"
code_text code.ChannelTargetNoMorphs = codes "ANIMATION_CHANNEL_TARGET_NODE_WEIGHTS_NO_MORPHS"
code_text code.OutputInvalidFormat = codes "ANIMATION_SAMPLER_OUTPUT_ACCESSOR_INVALID_FORMAT"
code_text code.OutputInvalidCount = codes "ANIMATION_SAMPLER_OUTPUT_ACCESSOR_INVALID_COUNT"
code_text code.IndexOob = codes "ACCESSOR_INDEX_OOB"
code_text code.IndexPrimitiveRestart = codes "ACCESSOR_INDEX_PRIMITIVE_RESTART"
code_text code.IndexTriangleDegenerate = codes "ACCESSOR_INDEX_TRIANGLE_DEGENERATE"
code_text code.SparseIndicesNonIncreasing = codes "ACCESSOR_SPARSE_INDICES_NON_INCREASING"
code_text code.SparseIndexOob = codes "ACCESSOR_SPARSE_INDEX_OOB"
code_text code.InvalidFloat = codes "ACCESSOR_INVALID_FLOAT"
code_text code.MinMismatch = codes "ACCESSOR_MIN_MISMATCH"
code_text code.MaxMismatch = codes "ACCESSOR_MAX_MISMATCH"
code_text code.ElementOutOfMinBound = codes "ACCESSOR_ELEMENT_OUT_OF_MIN_BOUND"
code_text code.ElementOutOfMaxBound = codes "ACCESSOR_ELEMENT_OUT_OF_MAX_BOUND"
code_text code.AnimationInputNegative = codes "ACCESSOR_ANIMATION_INPUT_NEGATIVE"
code_text code.AnimationInputNonIncreasing = codes "ACCESSOR_ANIMATION_INPUT_NON_INCREASING"
code_text code.ItemsNotLookedAt = codes "ACCESSOR_ITEMS_NOT_LOOKED_AT"
code_text code.NeededByReader = codes "MEMBER_NEEDED_BY_READER"
code_text code.AttributeUnsignedInt = codes "MESH_PRIMITIVE_ATTRIBUTES_ACCESSOR_UNSIGNED_INT"

abbrev pub sentence : Code → List ℕ
sentence code.UnresolvedReference = codes "The index leads to no element of its list."
sentence code.ValueNotInList = codes "The value is none of those that the standard lists."
sentence code.InvalidAttribute =
    codes "The name of the attribute is none of the standard's, and does not begin with an underscore."
sentence code.UndefinedProperty = codes "A member is absent that has to be there."
sentence code.OneOfMismatch = codes "Of two members exactly one has to be there."
sentence code.UnsatisfiedDependency = codes "A member is there without another one that it needs."
sentence code.RequiredExtension =
    codes "The extension is required, and this reader does not know it."
sentence code.UnusedExtensionRequired =
    codes "The extension is required, and is not in extensionsUsed."
sentence code.UnsupportedExtension =
    codes "This reader does not know the extension, and leaves its data as they stand."
sentence code.EmptyEntity = codes "The list or object is empty, and has to hold something."
sentence code.ValueNotInRange = codes "The number is out of its range."
sentence code.ValueMultipleOf = codes "The stride is not a multiple of 4."
sentence code.ViewTooBigByteStride = codes "The stride is greater than the length of the view."
sentence code.ViewTooLong = codes "The view does not fit into its buffer."
sentence code.OffsetAlignment = codes "The offset is not a multiple of the size of a component."
sentence code.TotalOffsetAlignment =
    codes "The offset and that of the view together are not a multiple of the size of a component."
sentence code.AccessorTooLong = codes "The items do not fit into the view."
sentence code.SmallByteStride = codes "The stride of the view is less than the size of an item."
sentence code.NormalizedInvalid = codes "Only numbers of one or two bytes may be normalized."
sentence code.SparseCountOutOfRange = codes "More items are replaced than there are."
sentence code.ImageViewWithByteStride = codes "The view of an image has a stride."
sentence code.AlphaCutoffInvalidMode = codes "The cutoff has a meaning in the mode MASK alone."
sentence code.NoPosition = codes "The primitive has no positions."
sentence code.TangentWithoutNormal = codes "The primitive has tangents and no normals."
sentence code.UnequalAccessorCount =
    codes "The attributes of the primitive have unequal numbers of items."
sentence code.PositionWithoutBounds = codes "The accessor of the positions has no min or no max."
sentence code.IndicesInvalidFormat =
    codes "The accessor of the indices is not one of unsigned whole numbers as they stand."
sentence code.IndicesWithByteStride = codes "The view of the indices has a stride."
sentence code.NodeParentOverride = codes "The node is a child already."
sentence code.NodeMatrixTrs =
    codes "The node has a matrix, and a translation, rotation or scale as well."
sentence code.IbmInvalidFormat =
    codes "The inverse bind matrices are not matrices of four by four floats."
sentence code.IbmCount = codes "There are fewer inverse bind matrices than joints."
sentence code.ChannelTargetMatrix = codes "The animated node has a matrix."
sentence code.InputInvalidFormat = codes "The accessor of the times is not one of single floats."
sentence code.InputWithoutBounds = codes "The accessor of the times has no min or no max."
sentence code.InputTooFewElements = codes "A cubic spline needs two times at least."
sentence code.UnusedObject = codes "No member of the document names this object."
sentence code.IoError = codes "A file cannot be read."
sentence code.GlbInvalidVersion = codes "The version of the container is not 2."
sentence code.GlbLengthTooSmall = codes "The length in the header is less than that of the header."
sentence code.GlbLengthMismatch = codes "The length in the header is not that of the file."
sentence code.GlbUnexpectedEndOfHeader = codes "The file ends within the header."
sentence code.GlbUnexpectedEndOfChunkHeader = codes "The file ends within the header of a chunk."
sentence code.GlbChunkTooBig = codes "The chunk is longer than what is left of the file."
sentence code.GlbUnexpectedFirstChunk = codes "The first chunk is not the JSON chunk."
sentence code.GlbDuplicateChunk = codes "There is a chunk of this type already."
sentence code.InvalidJson = codes "The text is not JSON."
sentence code.TypeMismatch =
    codes "The value is not of the type that the standard gives this member."
sentence code.ArrayTypeMismatch =
    codes "The element is not of the type that the standard gives those of this list."
sentence code.InvalidUri = codes "The URI cannot be decoded."
sentence code.BufferMissingGlbData =
    codes "The buffer has no uri, and the file has no binary chunk for it."
sentence code.BufferByteLengthMismatch = codes "The buffer has fewer bytes than its byteLength."
sentence code.PatternMismatch = codes "The version is not two numbers with a point between them."
sentence code.UnknownMajorVersion = codes "The major version is not 2."
sentence code.MinVersionGreaterThanVersion = codes "The least version is greater than the version."
sentence code.UndeclaredExtension = codes "The extension is used, and is not in extensionsUsed."
sentence code.DuplicateElements = codes "An earlier element of the list is the same."
sentence code.ViewTargetMissing = codes "The view holds attributes or indices, and has no target."
sentence code.IndexedSemanticContinuity =
    codes "The sets of colors, texture coordinates, joints or weights are not numbered from 0 without a gap."
sentence code.JointsWeightsMismatch = codes "There are not as many sets of joints as of weights."
sentence code.AttributeInvalidFormat =
    codes "The accessor's types are not among those that the standard lists for this attribute."
sentence code.AttributeUnaligned =
    codes "The offset or the stride of the attribute is not a multiple of 4."
sentence code.IncompatibleMode = codes "The number of vertices or indices does not fit the mode."
sentence code.TooFewTexcoords =
    codes "The material uses a set of texture coordinates that the primitive does not have."
sentence code.MorphTargetNoBaseAccessor =
    codes "The primitive does not have the attribute that the morph target displaces."
sentence code.MorphTargetInvalidCount =
    codes "The morph target has not as many items as the attribute that it displaces."
sentence code.UnequalTargetsCount =
    codes "The primitives of the mesh have unequal numbers of morph targets."
sentence code.MeshInvalidWeightsCount = codes "There are not as many weights as morph targets."
sentence code.NodeLoop = codes "The node is among its own ancestors."
sentence code.NodeEmpty = codes "The node is empty, and no skin has it as a joint."
sentence code.NodeWeightsInvalid =
    codes "There are not as many weights as morph targets in the mesh of the node."
sentence code.SkinWithNonSkinnedMesh =
    codes "The node has a skin, and no primitive of its mesh has joints."
sentence code.SkinnedMeshWithoutSkin =
    codes "A primitive of the node's mesh has joints, and the node has no skin."
sentence code.SceneNonRootNode = codes "The node is a child, and a scene may name roots alone."
sentence code.SkinNoCommonRoot = codes "The joints do not have a common root."
sentence code.SkinSkeletonInvalid = codes "The skeleton is not a common root of the joints."
sentence code.CameraZfarLequalZnear = codes "The far plane is not farther than the near plane."
sentence code.DuplicateTargets = codes "An earlier channel of the animation has the same target."
sentence code.ChannelTargetNoMorphs =
    codes "Weights are animated, and the node has no mesh with morph targets."
sentence code.OutputInvalidFormat =
    codes "The accessor's types are not among those that the standard lists for what is animated."
sentence code.OutputInvalidCount = codes "The number of values does not fit the number of times."
sentence code.IndexOob = codes "An index is at or above the number of vertices."
sentence code.IndexPrimitiveRestart =
    codes "An index is the greatest of its type, which would restart the primitive."
sentence code.IndexTriangleDegenerate = codes "A triangle names a vertex twice."
sentence code.SparseIndicesNonIncreasing =
    codes "A sparse index is not greater than the one before."
sentence code.SparseIndexOob = codes "A sparse index is at or above the number of items."
sentence code.InvalidFloat = codes "A component is infinite or not a number."
sentence code.MinMismatch = codes "The stated minimum is not the least value."
sentence code.MaxMismatch = codes "The stated maximum is not the greatest value."
sentence code.ElementOutOfMinBound = codes "An item is below the stated minimum."
sentence code.ElementOutOfMaxBound = codes "An item is above the stated maximum."
sentence code.AnimationInputNegative = codes "A time is negative."
sentence code.AnimationInputNonIncreasing = codes "A time is not greater than the one before."
sentence code.ItemsNotLookedAt =
    codes "The items were not looked at: all together are too many for a file of this size."
sentence code.NeededByReader =
    codes "The standard lets this member be absent, and this reader does not load a file without it."
sentence code.AttributeUnsignedInt =
    codes "An attribute of an application must not have unsigned integers of four bytes."

-- an error is what the standard forbids
abbrev pub severity : Code → Severity
severity code.UnresolvedReference = grave.Error
severity code.ValueNotInList = grave.Error
severity code.InvalidAttribute = grave.Error
severity code.UndefinedProperty = grave.Error
severity code.OneOfMismatch = grave.Error
severity code.UnsatisfiedDependency = grave.Error
severity code.RequiredExtension = grave.Error
severity code.UnusedExtensionRequired = grave.Error
severity code.UnsupportedExtension = grave.Information
severity code.EmptyEntity = grave.Error
severity code.ValueNotInRange = grave.Error
severity code.ValueMultipleOf = grave.Error
severity code.ViewTooBigByteStride = grave.Error
severity code.ViewTooLong = grave.Error
severity code.OffsetAlignment = grave.Error
severity code.TotalOffsetAlignment = grave.Error
severity code.AccessorTooLong = grave.Error
severity code.SmallByteStride = grave.Error
severity code.NormalizedInvalid = grave.Error
severity code.SparseCountOutOfRange = grave.Error
severity code.ImageViewWithByteStride = grave.Error
severity code.AlphaCutoffInvalidMode = grave.Warning
severity code.NoPosition = grave.Warning
severity code.TangentWithoutNormal = grave.Warning
severity code.UnequalAccessorCount = grave.Error
severity code.PositionWithoutBounds = grave.Error
severity code.IndicesInvalidFormat = grave.Error
severity code.IndicesWithByteStride = grave.Error
severity code.NodeParentOverride = grave.Error
severity code.NodeMatrixTrs = grave.Error
severity code.IbmInvalidFormat = grave.Error
severity code.IbmCount = grave.Error
severity code.ChannelTargetMatrix = grave.Error
severity code.InputInvalidFormat = grave.Error
severity code.InputWithoutBounds = grave.Error
severity code.InputTooFewElements = grave.Error
severity code.UnusedObject = grave.Information
severity code.IoError = grave.Error
severity code.GlbInvalidVersion = grave.Error
severity code.GlbLengthTooSmall = grave.Error
severity code.GlbLengthMismatch = grave.Error
severity code.GlbUnexpectedEndOfHeader = grave.Error
severity code.GlbUnexpectedEndOfChunkHeader = grave.Error
severity code.GlbChunkTooBig = grave.Error
severity code.GlbUnexpectedFirstChunk = grave.Error
severity code.GlbDuplicateChunk = grave.Error
severity code.InvalidJson = grave.Error
severity code.TypeMismatch = grave.Error
severity code.ArrayTypeMismatch = grave.Error
severity code.InvalidUri = grave.Error
severity code.BufferMissingGlbData = grave.Error
severity code.BufferByteLengthMismatch = grave.Error
severity code.PatternMismatch = grave.Error
severity code.UnknownMajorVersion = grave.Error
severity code.MinVersionGreaterThanVersion = grave.Error
severity code.UndeclaredExtension = grave.Error
severity code.DuplicateElements = grave.Error
severity code.ViewTargetMissing = grave.Hint
severity code.IndexedSemanticContinuity = grave.Error
severity code.JointsWeightsMismatch = grave.Error
severity code.AttributeInvalidFormat = grave.Error
severity code.AttributeUnaligned = grave.Error
severity code.IncompatibleMode = grave.Warning
severity code.TooFewTexcoords = grave.Error
severity code.MorphTargetNoBaseAccessor = grave.Error
severity code.MorphTargetInvalidCount = grave.Error
severity code.UnequalTargetsCount = grave.Error
severity code.MeshInvalidWeightsCount = grave.Error
severity code.NodeLoop = grave.Error
severity code.NodeEmpty = grave.Information
severity code.NodeWeightsInvalid = grave.Error
severity code.SkinWithNonSkinnedMesh = grave.Error
severity code.SkinnedMeshWithoutSkin = grave.Warning
severity code.SceneNonRootNode = grave.Error
severity code.SkinNoCommonRoot = grave.Error
severity code.SkinSkeletonInvalid = grave.Error
severity code.CameraZfarLequalZnear = grave.Error
severity code.DuplicateTargets = grave.Error
severity code.ChannelTargetNoMorphs = grave.Error
severity code.OutputInvalidFormat = grave.Error
severity code.OutputInvalidCount = grave.Error
severity code.IndexOob = grave.Error
severity code.IndexPrimitiveRestart = grave.Error
severity code.IndexTriangleDegenerate = grave.Information
severity code.SparseIndicesNonIncreasing = grave.Error
severity code.SparseIndexOob = grave.Error
severity code.InvalidFloat = grave.Error
severity code.MinMismatch = grave.Error
severity code.MaxMismatch = grave.Error
severity code.ElementOutOfMinBound = grave.Error
severity code.ElementOutOfMaxBound = grave.Error
severity code.AnimationInputNegative = grave.Error
severity code.AnimationInputNonIncreasing = grave.Error
severity code.ItemsNotLookedAt = grave.Warning
severity code.NeededByReader = grave.Warning
severity code.AttributeUnsignedInt = grave.Error

-- the number of a severity in a report
abbrev pub severity_number : Severity → ℕ
severity_number grave.Error = 0
severity_number grave.Warning = 1
severity_number grave.Information = 2
severity_number grave.Hint = 3

-- a file with such a finding may be one that is not loaded: the standard forbids it, or this reader
-- alone needs a member that the standard lets be absent
abbrev pub may_refuse : Code → Bool
may_refuse code.NeededByReader = true
may_refuse c = severity_number (severity c) == 0

abbrev pub severity_text : Severity → List ℕ
severity_text grave.Error = codes "error"
severity_text grave.Warning = codes "warning"
severity_text grave.Information = codes "info"
severity_text grave.Hint = codes "hint"
