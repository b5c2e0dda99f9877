mod MarkerNumbers
