-- How a camera is kept.
use Rattle.picture_model.specs.Cameras.{CameraValue, Triple}
use Rattle.camera_cut.specs.declared.camera.Axes.{Axes}
use Rattle.camera_cut.specs.declared.camera.Camera.TheInside.{Inside}

abbrev pub triple_of : Axes → Triple
triple_of a = (a.x, a.y, a.z)

abbrev pub axes_of : Triple → Axes
axes_of t = record { x = t.0; y = t.1; z = t.2 }

-- the camera that is kept
abbrev pub camera_value : Inside → CameraValue
camera_value c = record {
  eye = triple_of c.eye;
  right = triple_of c.right;
  down = triple_of c.down;
  forward = triple_of c.forward;
  focal = c.focal;
  near = c.near;
  width = c.width;
  height = c.height;
  threshold = c.threshold;
  dot = c.dot;
}

-- how it is kept
abbrev pub camera_back : CameraValue → Inside
camera_back c = record {
  eye = axes_of c.eye;
  right = axes_of c.right;
  down = axes_of c.down;
  forward = axes_of c.forward;
  focal = c.focal;
  near = c.near;
  width = c.width;
  height = c.height;
  threshold = c.threshold;
  dot = c.dot;
}
